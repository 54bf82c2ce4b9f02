use Rattle.ck_journal.proofs.AttributeLaws.{hidden-stays}
use Rattle.ck_journal.proofs.laws.hidden_stays.Goals as goal

pub returns : goal.returns
returns c = hidden-stays
