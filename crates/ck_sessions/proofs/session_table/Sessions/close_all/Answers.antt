use Rattle.std.proofs.Common.{refl}
use Rattle.ck_sessions.proofs.Moves.{SessionsAgree-all_closed}
use Rattle.ck_sessions.proofs.session_table.Sessions.close_all.Goals as goal

pub returns : goal.returns
returns c = record {
  agree = λ h e d agree. SessionsAgree-all_closed h _ (rw (← c.self.view_is) at agree) e _
      d c.clear.ensures.items refl refl refl refl refl;
}
