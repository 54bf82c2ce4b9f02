use Rattle.ck_journal.proofs.VisibilityLemmas.{private-visible}
use Rattle.ck_journal.proofs.laws.private_objects_are_visible_to_the_user.Goals as goal

pub returns : goal.returns
returns c = private-visible
