use Rattle.ck_journal.proofs.KeyUseLemmas.{verifying-keys}
use Rattle.ck_journal.proofs.laws.verifying_keys_may_verify.Goals as goal

pub returns : goal.returns
returns c = verifying-keys
