use Rattle.ck_journal.proofs.ProtectionLaws.{copies-sensitive}
use Rattle.ck_journal.proofs.laws.copies_stay_sensitive.Goals as goal

pub returns : goal.returns
returns c = copies-sensitive
