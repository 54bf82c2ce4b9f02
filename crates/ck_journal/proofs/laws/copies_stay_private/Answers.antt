use Rattle.ck_journal.proofs.ProtectionLaws.{copies-private}
use Rattle.ck_journal.proofs.laws.copies_stay_private.Goals as goal

pub returns : goal.returns
returns c = copies-private
