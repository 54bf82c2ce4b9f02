use Rattle.ck_journal.proofs.ObjectLaws.{only-named}
use Rattle.ck_journal.proofs.laws.only_named_objects_change.Goals as goal

pub returns : goal.returns
returns c = only-named
