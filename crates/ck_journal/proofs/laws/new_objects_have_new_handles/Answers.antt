use Rattle.ck_journal.proofs.HandleLemmas.{new_objects-new_handles}
use Rattle.ck_journal.proofs.laws.new_objects_have_new_handles.Goals as goal

pub returns : goal.returns
returns c = new_objects-new_handles
