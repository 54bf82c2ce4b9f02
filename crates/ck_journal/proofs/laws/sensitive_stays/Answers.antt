use Rattle.ck_journal.proofs.ProtectionLaws.{sensitive-stays}
use Rattle.ck_journal.proofs.laws.sensitive_stays.Goals as goal

pub returns : goal.returns
returns c = sensitive-stays
