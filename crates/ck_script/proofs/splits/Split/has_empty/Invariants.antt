use Rattle.std.proofs.Common.{length}
use Rattle.ck_script.proofs.splits.Split.has_empty.Given as goal

abbrev pub decreases-loop-word : goal.decreases-loop-word
decreases-loop-word l = length l.self
