use Rattle.ck_journal.proofs.ObjectLaws.{undestroyable-not_destroyed}
use Rattle.ck_journal.proofs.laws.undestroyable_objects_are_not_destroyed.Goals as goal

pub returns : goal.returns
returns c = undestroyable-not_destroyed
