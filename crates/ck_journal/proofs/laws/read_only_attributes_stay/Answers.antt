use Rattle.ck_journal.proofs.AttributeLaws.{read_only-stays}
use Rattle.ck_journal.proofs.laws.read_only_attributes_stay.Goals as goal

pub returns : goal.returns
returns c = read_only-stays
