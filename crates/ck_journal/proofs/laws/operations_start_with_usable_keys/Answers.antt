use Rattle.ck_journal.proofs.KeyUseLemmas.{starts-usable}
use Rattle.ck_journal.proofs.laws.operations_start_with_usable_keys.Goals as goal

pub returns : goal.returns
returns c = starts-usable
