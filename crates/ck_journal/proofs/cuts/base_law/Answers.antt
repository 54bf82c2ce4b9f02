use Rattle.ck_journal.proofs.BaseLemmas.{start-base}
use Rattle.ck_journal.proofs.cuts.base_law.Goals as goal

pub returns : goal.returns
returns c = start-base
