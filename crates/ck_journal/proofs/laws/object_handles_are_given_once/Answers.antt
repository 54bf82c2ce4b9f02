use Rattle.ck_journal.proofs.HandleLemmas.{object_handles-once}
use Rattle.ck_journal.proofs.laws.object_handles_are_given_once.Goals as goal

pub returns : goal.returns
returns c = object_handles-once
