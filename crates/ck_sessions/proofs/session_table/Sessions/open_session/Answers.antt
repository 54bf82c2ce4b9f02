use Rattle.std.proofs.Common.{refl}
use Rattle.ck_sessions.proofs.Moves.{SessionsAgree-opened}
use Rattle.ck_sessions.proofs.session_table.Sessions.open_session.Goals as goal

pub returns : goal.returns
returns c = record {
  agree = λ h e d none agree.
      SessionsAgree-opened h _ (rw (← c.self.view_is) at agree) e c.args.flags _ d none
      (rw c.new-session.ensures at c.push_reserved.ensures.items) refl refl refl refl refl;
}
