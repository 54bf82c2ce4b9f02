use Rattle.std.proofs.Common.{◌≡◌, refl, rules, arith, ◌∙◌}
use Rattle.std.specs.Prelude.{option_map}
use Rattle.std.proofs.lemmas.List.{with_items_is}
use Rattle.ck_sessions.specs.Rows.{new_search}
use Rattle.ck_sessions.proofs.Moves.{SessionsAgree-set}
use Rattle.ck_sessions.proofs.session_table.Sessions.set_search.Goals as goal

pub returns : goal.returns
returns c =
    let mapped : c.map.result ≡ option_map new_search c.args.found = search rules in
    let written = with_items_is c.self.inside.rows c.set_search.new.rows (omega arith) in
    record {
      agree = λ h e call d sets agree.
          SessionsAgree-set h _ (rw (← c.self.view_is) at agree) e _ refl refl refl refl refl call
          c.args.session
          c.args.found d sets
          (written ∙ rw (mapped, c.deref_mut.ensures.value) at c.set_search.ensures);
    }
