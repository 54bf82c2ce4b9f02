use Rattle.ck_journal.proofs.AttributeLaws.{states-rise}
use Rattle.ck_journal.proofs.laws.key_states_never_go_back.Goals as goal

pub returns : goal.returns
returns c = states-rise
