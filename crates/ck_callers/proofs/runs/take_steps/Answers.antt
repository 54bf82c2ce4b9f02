use Rattle.std.proofs.Common.{length, sym, ap, ◌∙◌, arith}
use Rattle.std.specs.Vec.Iter.{into_iter_items}
use Rattle.ck_callers.proofs.Making.{making_next, made_all, made_before}
use Rattle.ck_callers.proofs.runs.take_steps.Goals as goal

pub loop-step-preserved : goal.loop-step-preserved
loop-step-preserved g c =
    let left = ap length c.in-Some.ensures.steps.0 in (
      tt,
      tt,
      making_next g.S.NextStep.does g.S.NextStep.may_fail c.args.caller.now c.args.steps.items
          c.loop-step.answers.items
          (into_iter_items c.loop-step.step-iterator) c.loop-step.caller c.loop-step.invariant.2
          c.in-Some.step (into_iter_items c.next.new.self) c.in-Some.ensures.steps.0
          c.in_ok-answer.answer c.make.new.caller c.in_ok-answer.ensures.made
          c.push_reserved.new.self.items
          c.push_reserved.ensures.items,
      omega (
        arith,
        left,
        c.loop-step.invariant.3,
        c.push_reserved.ensures.len,
        c.push_reserved.ensures.capacity,
      ),
    )

pub returns-in_err-answer : goal.returns-in_err-answer
returns-in_err-answer g c =
    made_before g.S.NextStep.does g.S.NextStep.may_fail c.args.caller.now c.args.steps.items
    c.loop-step.answers.items
    (into_iter_items c.loop-step.step-iterator) c.loop-step.caller c.loop-step.invariant.2
    c.in-Some.step (into_iter_items c.next.new.self) c.in-Some.ensures.steps.0
    c.in_err-answer.ensures.memory
    c.from_residual.result c.from_residual.ensures.0 c.make.new.caller
    c.in_err-answer.ensures.caller

pub returns : goal.returns
returns g c =
    made_all g.S.NextStep.does g.S.NextStep.may_fail c.args.caller.now c.args.steps.items
    c.loop-step.answers.items
    (into_iter_items c.loop-step.step-iterator) c.loop-step.caller c.loop-step.invariant.2
    (sym c.loop-step.step-iterator.rest.ok.0 ∙ c.in-None.ensures.steps.0)
