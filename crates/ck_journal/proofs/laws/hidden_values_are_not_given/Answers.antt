use Rattle.ck_journal.proofs.ValueLemmas.{hidden-not_given}
use Rattle.ck_journal.proofs.laws.hidden_values_are_not_given.Goals as goal

pub returns : goal.returns
returns c = hidden-not_given
