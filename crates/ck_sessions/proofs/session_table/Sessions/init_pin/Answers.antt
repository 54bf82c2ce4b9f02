use Rattle.std.proofs.Common.{refl, ap}
use Rattle.ck_sessions.specs.declared.credentials.Credential.{Credential}
use Rattle.ck_sessions.proofs.Moves.{SessionsAgree-pin_initialized}
use Rattle.ck_sessions.proofs.session_table.Sessions.init_pin.Goals as goal

pub returns : goal.returns
returns c = record {
  agree = λ h e session d agree. SessionsAgree-pin_initialized h _ (rw (← c.self.view_is) at agree)
      e session
      c.args.pin _ d refl refl refl refl refl
      (ap (λ (x : Credential). x.pin) c.new-self-inside.ensures)
      (ap (λ (x : Credential). x.tries) c.new-self-inside.ensures);
}
