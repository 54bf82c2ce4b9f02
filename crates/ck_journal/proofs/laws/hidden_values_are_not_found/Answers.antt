use Rattle.ck_journal.proofs.SearchLaws.{hidden-not_found}
use Rattle.ck_journal.proofs.laws.hidden_values_are_not_found.Goals as goal

pub returns : goal.returns
returns c = hidden-not_found
