use Rattle.std.proofs.Common.{◌∙◌}
use Rattle.ck_sessions.proofs.Readings.{read_only-rows}
use Rattle.ck_sessions.proofs.session_table.Sessions.has_read_only.Goals as goal

pub returns : goal.returns
returns c = λ h agree. c.has_read_only.ensures ∙ rw c.deref.ensures.value
    (read_only-rows h _ (rw (← c.self.view_is) at agree))
