use Rattle.ck_journal.proofs.CopyLaws.{copies-hidden}
use Rattle.ck_journal.proofs.laws.copies_stay_hidden.Goals as goal

pub returns : goal.returns
returns c = copies-hidden
