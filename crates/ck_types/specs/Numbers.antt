-- Bytes, and numbers as bytes
use Rattle.std.specs.Prelude.{ℕ, Bool, List, ◌==◌}
use Rattle.std.specs.Int.{w64, to_le_bytes}
use Rattle.std.specs.Cmp.Lexicographic.{pointwise}

-- a number as 8 bytes (CK_ULONG), the least significant first
abbrev pub number_bytes : ℕ → List ℕ
number_bytes n = to_le_bytes w64 n

-- the same bytes
abbrev pub same_bytes : List ℕ → List ℕ → Bool
same_bytes = pointwise ◌==◌
