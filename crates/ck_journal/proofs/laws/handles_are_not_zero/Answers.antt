use Rattle.ck_journal.proofs.HandleLemmas.{handles-not_zero}
use Rattle.ck_journal.proofs.laws.handles_are_not_zero.Goals as goal

pub returns : goal.returns
returns c = handles-not_zero
