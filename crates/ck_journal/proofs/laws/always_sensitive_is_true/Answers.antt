use Rattle.ck_journal.proofs.ProtectionLaws.{always-sensitive}
use Rattle.ck_journal.proofs.laws.always_sensitive_is_true.Goals as goal

pub returns : goal.returns
returns c = always-sensitive
