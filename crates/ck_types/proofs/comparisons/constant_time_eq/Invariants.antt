use Rattle.std.proofs.Common.{◌≡◌, ◌==◌, length, take}
use Rattle.ck_types.specs.Numbers.{same_bytes}
use Rattle.ck_types.proofs.comparisons.constant_time_eq.Given as goal

-- no byte differed so far where the first bytes are the same
abbrev pub invariant-loop-a : goal.invariant-loop-a
invariant-loop-a l =
    (l.difference == 0)
    ≡ same_bytes (take (length l.yielded) l.left) (take (length l.yielded) l.right)
