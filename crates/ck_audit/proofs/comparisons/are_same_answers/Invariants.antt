use Rattle.std.proofs.Common.{◌≡◌, length, take}
use Rattle.ck_audit.proofs.comparisons.are_same_answers.Given as goal

-- the answers so far are the same
abbrev pub invariant-loop-answer : goal.invariant-loop-answer
invariant-loop-answer l = take (length l.yielded) l.one ≡ take (length l.yielded) l.other
