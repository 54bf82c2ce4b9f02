use Rattle.ck_journal.proofs.ProtectionLaws.{copies-unextractable}
use Rattle.ck_journal.proofs.laws.copies_stay_unextractable.Goals as goal

pub returns : goal.returns
returns c = copies-unextractable
