use Rattle.ck_journal.proofs.ProtectionLaws.{never-extractable}
use Rattle.ck_journal.proofs.laws.never_extractable_is_true.Goals as goal

pub returns : goal.returns
returns c = never-extractable
