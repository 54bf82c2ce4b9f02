use Rattle.ck_journal.proofs.ObjectLaws.{token_objects-written}
use Rattle.ck_journal.proofs.laws.token_objects_are_written_in_read_write_sessions.Goals as goal

pub returns : goal.returns
returns c = token_objects-written
