use Rattle.ck_journal.proofs.CopyLaws.{copies-keep}
use Rattle.ck_journal.proofs.laws.copies_keep_the_rest.Goals as goal

pub returns : goal.returns
returns c = copies-keep
