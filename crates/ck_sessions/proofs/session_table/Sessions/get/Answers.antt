use Rattle.std.proofs.Common.{◌∙◌}
use Rattle.ck_sessions.proofs.Readings.{find-session}
use Rattle.ck_sessions.proofs.session_table.Sessions.get.Goals as goal

pub returns : goal.returns
returns c = λ h agree. c.find_session.ensures ∙ rw c.deref.ensures.value
    (find-session h _ (rw (← c.self.view_is) at agree) c.args.session)
