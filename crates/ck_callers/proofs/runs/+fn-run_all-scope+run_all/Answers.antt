use Rattle.std.proofs.Common.{sym, ap, ◌∙◌, ◌++◌, ◌∷◌, [], subst, arith}
use Rattle.std.specs.List.{AllZip}
use Rattle.std.specs.Prelude.{vec_items}
use Rattle.std.proofs.lemmas.List.Elements.{AllZip-push}
use Rattle.ck_callers.specs.Runs.{HasRun}
use Rattle.ck_callers.proofs.runs.+fn-run_all-scope+run_all.Goals as goal
use Rattle.ck_callers.proofs.runs.+fn-run_all-scope+run_all.Goals.{scope-in-Ok, scope-in-Err}

pub scope-returns : goal.scope-returns
scope-returns g t c =
    let Run = HasRun g.S.NextStep.does g.S.NextStep.may_fail in
    let run : Run c.captures.script c.match-run.script = elim c.match-run.branch [
      | scope-in-Ok w ↦
          subst (Run c.captures.script) (sym w.script-is)
          (subst (λ s. Run s w.join-script.result)
          (ap (λ p. p.0.value) w.in-Ok.ensures.ok ∙ c.of.ensures) w.join-script.ensures)
      | scope-in-Err w ↦
          subst (Run c.captures.script) (sym w.script-is)
          (subst (λ f. Run f.4 w.spawn_with-script.result) w.in-Err.ensures.err
          w.spawn_with-script.ensures)
    ] in
    record {
      scripts = subst (AllZip Run (vec_items c.captures.scripts ++ c.captures.script ∷ []))
          (sym c.push_reserved.ensures.items)
          (AllZip-push Run (vec_items c.captures.scripts) (vec_items c.run_all-others.result)
          c.captures.script c.match-run.script c.run_all-others.ensures.scripts run);
      room = omega (arith, c.push_reserved.ensures.capacity);
    }
