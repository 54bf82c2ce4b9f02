use Rattle.ck_journal.proofs.LockLaws.{officers-stay-locked}
use Rattle.ck_journal.proofs.laws.locked_officers_stay_locked.Goals as goal

pub returns : goal.returns
returns c = officers-stay-locked
