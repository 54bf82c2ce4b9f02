use Rattle.ck_journal.proofs.KeyLoginLemmas.{private-keys}
use Rattle.ck_journal.proofs.laws.private_keys_serve_the_user.Goals as goal

pub returns : goal.returns
returns c = private-keys
