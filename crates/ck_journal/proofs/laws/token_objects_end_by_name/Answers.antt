use Rattle.ck_journal.proofs.ObjectLaws.{token_objects-end}
use Rattle.ck_journal.proofs.laws.token_objects_end_by_name.Goals as goal

pub returns : goal.returns
returns c = token_objects-end
