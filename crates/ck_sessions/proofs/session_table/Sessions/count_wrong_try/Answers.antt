use Rattle.std.proofs.Common.{◌∙◌, ap, refl, add-one, Some}
use Rattle.ck_sessions.proofs.Moves.{SessionsAgree-wrong}
use Rattle.ck_types.specs.declared.users.UserType.TheVariants as user
use Rattle.ck_sessions.proofs.session_table.Sessions.count_wrong_try.Goals as goal

pub returns-in-So : goal.returns-in-So
returns-in-So c = record {
  agree = λ h e d about agree.
      SessionsAgree-wrong h _ (rw (← c.self.view_is) at agree) e user.So _ d
      (about ∙ ap Some c.in-So.is) refl
      refl refl refl refl refl (add-one c.self.inside.so.tries) refl;
}

pub returns-in-User : goal.returns-in-User
returns-in-User c = record {
  agree = λ h e d about agree.
      SessionsAgree-wrong h _ (rw (← c.self.view_is) at agree) e user.User _ d
      (about ∙ ap Some c.in-User.is)
      refl refl refl refl refl refl refl (add-one c.self.inside.user.tries);
}
