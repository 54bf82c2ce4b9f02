use Rattle.ck_journal.proofs.VisibilityLemmas.{private-named}
use Rattle.ck_journal.proofs.laws.private_objects_are_named_by_the_user.Goals as goal

pub returns : goal.returns
returns c = private-named
