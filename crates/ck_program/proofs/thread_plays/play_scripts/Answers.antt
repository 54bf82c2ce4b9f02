use Rattle.std.proofs.Common.{◌≡◌, ℕ, List, ◌∙◌, subst}
use Rattle.std.specs.Prelude.{IfOk, vec_items}
use Rattle.ck_program.specs.CallerCalls.{caller_numbers}
use Rattle.ck_program.proofs.CallerCallLemmas.{all_played_all}
use Rattle.ck_program.proofs.NumberLemmas.{same_numbers}
use Rattle.ck_program.proofs.thread_plays.play_scripts.Goals as goal

pub returns-clause-made : goal.returns-clause-made
returns-clause-made g c =
    let calls = c.args.calls.now in
    c.callers_of.ensures.made calls
    (all_played_all calls (vec_items c.in_ok-scripts.scripts) (vec_items c.run_scripts.result)
    c.run_scripts.ensures c.in_ok-scripts.ensures.unplayed)

pub returns-clause-numbers : goal.returns-clause-numbers
returns-clause-numbers g c =
    subst (λ (ns : List ℕ). IfOk c.callers_of.result (λ back. caller_numbers (vec_items back) ≡ ns))
    (same_numbers (vec_items c.in_ok-scripts.scripts) (vec_items c.run_scripts.result)
    c.run_scripts.ensures ∙ c.in_ok-scripts.ensures.numbers)
    c.callers_of.ensures.numbers
