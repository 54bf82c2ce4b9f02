use Rattle.ck_journal.proofs.SearchLaws.{returned-named}
use Rattle.ck_journal.proofs.laws.returned_handles_name_objects.Goals as goal

pub returns : goal.returns
returns c = returned-named
