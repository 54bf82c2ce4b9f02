use Rattle.ck_journal.proofs.AttributeLaws.{private-stays}
use Rattle.ck_journal.proofs.laws.private_stays.Goals as goal

pub returns : goal.returns
returns c = private-stays
