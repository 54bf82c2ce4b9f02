use Rattle.std.proofs.Common.{◌≡◌, length, refl, vec_len, arith}
use Rattle.ck_sessions.proofs.Moves.{SessionsAgree-closed}
use Rattle.ck_sessions.proofs.session_table.Sessions.close.Goals as goal

pub returns-then-is_empty : goal.returns-then-is_empty
returns-then-is_empty c =
    let rows = c.remove_session.new.rows in
    let same : length rows.items ≡ vec_len rows = omega arith in
    record {
      agree = λ h e d agree. SessionsAgree-closed h _
          (rw (← c.self.view_is) at agree) e c.args.session _ d c.remove_session.ensures refl
          (rw (same, ← c.is_empty.ensures, c.if-is_empty.true)) refl refl refl;
    }

pub returns-else-is_empty : goal.returns-else-is_empty
returns-else-is_empty c =
    let rows = c.remove_session.new.rows in
    let same : length rows.items ≡ vec_len rows = omega arith in
    record {
      agree = λ h e d agree. SessionsAgree-closed h _
          (rw (← c.self.view_is) at agree) e c.args.session _ d c.remove_session.ensures refl
          (rw (same, ← c.is_empty.ensures, c.if-is_empty.false)) refl refl refl;
    }
