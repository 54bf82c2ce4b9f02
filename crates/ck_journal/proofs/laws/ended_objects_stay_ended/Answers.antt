use Rattle.ck_journal.proofs.EndLaws.{ended-stay}
use Rattle.ck_journal.proofs.laws.ended_objects_stay_ended.Goals as goal

pub returns : goal.returns
returns c = ended-stay
