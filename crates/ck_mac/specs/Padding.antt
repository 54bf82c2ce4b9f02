-- Bytes that are filled up
use Rattle.std.specs.Prelude.{ℕ, ◌-◌, List, ◌++◌, length, replicate}

-- the bytes, followed by zeros up to n bytes
abbrev pub with_zeros : ℕ → List ℕ → List ℕ
with_zeros n bytes = bytes ++ replicate (n - length bytes) 0
