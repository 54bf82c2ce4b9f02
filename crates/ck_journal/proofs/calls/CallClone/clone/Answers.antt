use Rattle.std.proofs.Common.{arith}
use Rattle.std.proofs.lemmas.Grind.{elements}
use Rattle.ck_journal.proofs.calls.CallClone.clone.Goals as goal

pub returns : goal.returns
returns c = grind (arith, elements)
