use Rattle.ck_journal.proofs.HandleLemmas.{names-one_object}
use Rattle.ck_journal.proofs.laws.handles_name_one_object.Goals as goal

pub returns : goal.returns
returns c = names-one_object
