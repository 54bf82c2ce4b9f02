use Rattle.std.proofs.Common.{◌++◌, ◌∷◌, [], sym, ap, ◌∙◌, subst, arith}
use Rattle.std.specs.List.{AllZip}
use Rattle.std.specs.Prelude.{vec_items, zip}
use Rattle.ck_shared.specs.Outputs.{HasActed}
use Rattle.ck_shared.proofs.OutputLemmas.{acted_push, acted_same}
use Rattle.ck_shared.proofs.Starting.{either_way}
use Rattle.ck_shared.proofs.sharing.+act_together+fn-act_together-scope.Goals as goal

pub scope-returns : goal.scope-returns
scope-returns g t c =
    let holds = g.C.CallerWork.holds in
    let Acted = HasActed (holds c.captures.work.now) in
    let callers = vec_items c.captures.callers in
    let done = c.join_or_call-output.result in
    let others = c.act_together-outputs.result in
    let made = c.act_together-outputs.ensures in
    let acted : Acted c.captures.caller done =
    either_way c.spawn_with-act.result _ _ _ _ _ c.join_or_call-output.ensures
    c.spawn_with-act.ensures.ok c.spawn_with-act.ensures.err
    (λ thread kept is. acted_same holds thread.promise.work.value c.captures.work.now
    thread.promise.caller.value c.captures.caller done
    (ap (λ act. act.work.value) is ∙ c.of-2.ensures)
    (ap (λ act. act.caller.value) is ∙ c.of.ensures) kept)
    (λ refused called is. acted_same holds refused.value.3.now c.captures.work.now
    refused.value.2 c.captures.caller done (ap (λ f. f.3.now) is) (ap (λ f. f.2) is) called) in
    record {
      len = (
        omega (arith, c.push_reserved.ensures.len, made.len.0),
        omega (arith, c.push_reserved-2.ensures.len, made.len.1),
      );
      room = (
        c.push_reserved.ensures.capacity ∙ made.room.0,
        omega (arith, c.push_reserved-2.ensures.capacity, made.room.1),
      );
      done =
          subst (λ outputs. AllZip Acted (callers ++ c.captures.caller ∷ [])
          (zip outputs (vec_items c.push_reserved-2.new.self))) (sym c.push_reserved.ensures.items)
          (subst (λ after. AllZip Acted (callers ++ c.captures.caller ∷ [])
          (zip (vec_items others.0 ++ done.0 ∷ []) after)) (sym c.push_reserved-2.ensures.items)
          (acted_push Acted callers (vec_items others.0) (vec_items others.1) c.captures.caller done
          (sym others.0.ok.0 ∙ made.len.0 ∙ c.captures.callers.ok.0)
          (sym others.1.ok.0 ∙ made.len.1 ∙ c.captures.callers.ok.0) made.done acted));
    }
