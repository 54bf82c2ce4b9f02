use Rattle.ck_journal.proofs.CopyLaws.{uncopyable-not_copied}
use Rattle.ck_journal.proofs.laws.uncopyable_objects_are_not_copied.Goals as goal

pub returns : goal.returns
returns c = uncopyable-not_copied
