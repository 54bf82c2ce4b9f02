use Rattle.ck_journal.proofs.HandleLemmas.{session_handles-once}
use Rattle.ck_journal.proofs.laws.session_handles_are_given_once.Goals as goal

pub returns : goal.returns
returns c = session_handles-once
