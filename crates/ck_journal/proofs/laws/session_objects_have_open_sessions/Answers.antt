use Rattle.ck_journal.proofs.SessionObjectLemmas.{session_object-open}
use Rattle.ck_journal.proofs.laws.session_objects_have_open_sessions.Goals as goal

pub returns : goal.returns
returns c = session_object-open
