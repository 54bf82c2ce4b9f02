use Rattle.ck_journal.proofs.VisibilityLemmas.{private-attributes}
use Rattle.ck_journal.proofs.laws.private_attributes_are_given_to_the_user.Goals as goal

pub returns : goal.returns
returns c = private-attributes
