use Rattle.std.proofs.Common.{◌∙◌, ap, refl, Some}
use Rattle.ck_sessions.specs.declared.credentials.Credential.{Credential}
use Rattle.ck_sessions.proofs.Moves.{SessionsAgree-initialized, Some-unwrap_or}
use Rattle.ck_sessions.proofs.session_table.Sessions.init_token.Goals as goal

pub returns : goal.returns
returns c = record {
  agree = λ h e d agree.
      SessionsAgree-initialized h _ (rw (← c.self.view_is) at agree) e c.args.pin _ d refl refl refl
      refl
      (ap (λ (x : Credential). x.pin) c.new-self-inside.ensures ∙ ap Some c.unwrap_or-so_pin.ensures
      ∙
      Some-unwrap_or c.args.pin c.self.inside.so.pin)
      (ap (λ (x : Credential). x.tries) c.new-self-inside.ensures) refl refl;
}
