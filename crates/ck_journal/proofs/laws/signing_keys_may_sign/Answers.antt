use Rattle.ck_journal.proofs.KeyUseLemmas.{signing-keys}
use Rattle.ck_journal.proofs.laws.signing_keys_may_sign.Goals as goal

pub returns : goal.returns
returns c = signing-keys
