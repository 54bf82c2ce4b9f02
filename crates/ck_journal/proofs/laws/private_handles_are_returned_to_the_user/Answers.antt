use Rattle.ck_journal.proofs.ReturnedHandleLemmas.{private-returned}
use Rattle.ck_journal.proofs.laws.private_handles_are_returned_to_the_user.Goals as goal

pub returns : goal.returns
returns c = private-returned
