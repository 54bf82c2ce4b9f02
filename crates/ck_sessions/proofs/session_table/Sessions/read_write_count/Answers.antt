use Rattle.std.proofs.Common.{◌∙◌}
use Rattle.ck_sessions.proofs.Readings.{rw-rows}
use Rattle.ck_sessions.proofs.session_table.Sessions.read_write_count.Goals as goal

pub returns : goal.returns
returns c = λ h agree. c.count_read_write.ensures ∙ rw c.deref.ensures.value
    (rw-rows h _ (rw (← c.self.view_is) at agree))
