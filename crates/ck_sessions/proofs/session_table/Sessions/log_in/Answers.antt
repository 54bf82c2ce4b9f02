use Rattle.std.proofs.Common.{◌∙◌, ap, refl, add-one, Some}
use Rattle.ck_sessions.proofs.Moves.{SessionsAgree-logged_in}
use Rattle.ck_types.specs.declared.users.UserType.TheVariants as user
use Rattle.ck_sessions.proofs.session_table.Sessions.log_in.Goals as goal

pub returns-in-So : goal.returns-in-So
returns-in-So c = record {
  agree = λ h e session number pin d opened known agree.
      SessionsAgree-logged_in h _ (rw (← c.self.view_is) at agree) e session number pin user.So _ d
      opened
      (known ∙ ap Some c.in-So.is)
      refl refl (ap Some c.in-So.is) refl refl refl refl refl;
}

pub returns-in-User : goal.returns-in-User
returns-in-User c = record {
  agree = λ h e session number pin d opened known agree.
      SessionsAgree-logged_in h _ (rw (← c.self.view_is) at agree) e session number pin user.User _
      d opened
      (known ∙ ap Some c.in-User.is)
      refl refl (ap Some c.in-User.is) (add-one c.self.inside.logins) refl refl refl refl;
}
