use Rattle.std.proofs.Common.{◌∙◌, refl, ap}
use Rattle.ck_sessions.specs.declared.credentials.Credential.{Credential}
use Rattle.ck_sessions.proofs.Moves.{SessionsAgree-so_pin_set, SessionsAgree-user_pin_set}
use Rattle.ck_sessions.proofs.session_table.Sessions.set_pin.Goals as goal

pub returns-in-So : goal.returns-in-So
returns-in-So c = record {
  agree = λ h e session before d owner agree.
      SessionsAgree-so_pin_set h _ (rw (← c.self.view_is) at agree) e session before c.args.pin _ d
      refl refl
      refl refl (owner ∙ c.in-So.is) (rw (c.in-So.is, ← c.self.view_is) at c.requires)
      (ap (λ (x : Credential). x.pin) c.new-self-inside.ensures)
      (ap (λ (x : Credential). x.tries) c.new-self-inside.ensures) refl;
}

pub returns-in-User : goal.returns-in-User
returns-in-User c = record {
  agree = λ h e session before d owner agree.
      SessionsAgree-user_pin_set h _ (rw (← c.self.view_is) at agree) e session before c.args.pin _
      d refl
      refl refl refl (owner ∙ c.in-User.is) refl
      (ap (λ (x : Credential). x.pin) c.new-self-inside-in-User.ensures)
      (ap (λ (x : Credential). x.tries) c.new-self-inside-in-User.ensures);
}
