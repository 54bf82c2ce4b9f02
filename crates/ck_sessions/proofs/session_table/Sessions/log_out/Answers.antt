use Rattle.std.proofs.Common.{refl, arith, ◌∙◌}
use Rattle.std.proofs.lemmas.List.{with_items_is}
use Rattle.ck_sessions.proofs.Moves.{SessionsAgree-logged_out}
use Rattle.ck_sessions.proofs.session_table.Sessions.log_out.Goals as goal

pub returns : goal.returns
returns c =
    let written = with_items_is c.self.inside.rows c.end_searches.new.rows (omega arith) in
    record {
      agree = λ h e session d agree.
          SessionsAgree-logged_out h _ (rw (← c.self.view_is) at agree) e session _ d
          (written ∙ rw c.deref_mut.ensures.value at c.end_searches.ensures) refl refl refl refl
          refl;
    }
