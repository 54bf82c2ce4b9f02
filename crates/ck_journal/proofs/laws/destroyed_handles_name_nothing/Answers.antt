use Rattle.ck_journal.proofs.EndLaws.{destroyed-name_nothing}
use Rattle.ck_journal.proofs.laws.destroyed_handles_name_nothing.Goals as goal

pub returns : goal.returns
returns c = destroyed-name_nothing
