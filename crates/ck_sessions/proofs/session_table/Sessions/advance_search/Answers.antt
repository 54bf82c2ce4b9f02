use Rattle.std.proofs.Common.{refl, arith, ◌∙◌}
use Rattle.std.proofs.lemmas.List.{with_items_is}
use Rattle.ck_sessions.proofs.Moves.{SessionsAgree-found}
use Rattle.ck_sessions.proofs.session_table.Sessions.advance_search.Goals as goal

pub returns : goal.returns
returns c =
    let written = with_items_is c.self.inside.rows c.set_last_found.new.rows (omega arith) in
    record {
      agree = λ h e max d last agree.
          SessionsAgree-found h _ (rw (← c.self.view_is) at agree) e _ refl refl refl refl refl
          c.args.session max
          c.args.number d last
          (written ∙ rw c.deref_mut.ensures.value at c.set_last_found.ensures);
    }
