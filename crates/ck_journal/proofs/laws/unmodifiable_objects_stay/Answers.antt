use Rattle.ck_journal.proofs.AttributeLaws.{unmodifiable-stays}
use Rattle.ck_journal.proofs.laws.unmodifiable_objects_stay.Goals as goal

pub returns : goal.returns
returns c = unmodifiable-stays
