use Rattle.ck_journal.proofs.SignatureLaws.{signatures-of_key}
use Rattle.ck_journal.proofs.laws.signatures_are_of_the_key.Goals as goal

pub returns : goal.returns
returns c = signatures-of_key
