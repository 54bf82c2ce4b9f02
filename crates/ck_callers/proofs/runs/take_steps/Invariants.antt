use Rattle.std.proofs.Common.{◌+◌, ◌≤◌, length}
use Rattle.std.specs.Prelude.{vec_items, vec_len, vec_capacity}
use Rattle.std.specs.Vec.Iter.{into_iter_items}
use Rattle.ck_callers.proofs.Making.{IsMaking}
use Rattle.ck_callers.proofs.runs.take_steps.Given as goal

-- the steps up to those that are left were answered, and the answers to those have room
abbrev pub invariant-loop-step : goal.invariant-loop-step
invariant-loop-step g l =
    (goal.iterator-loop-step g).can_next l.step-iterator
    × (goal.iterator-loop-step g).is_finite l.step-iterator
    × IsMaking g.S.NextStep.does g.S.NextStep.may_fail l.fn.caller (vec_items l.fn.steps)
    (vec_items l.answers)
    (into_iter_items l.step-iterator) l.caller
    × (vec_len l.answers + length (into_iter_items l.step-iterator) ≤ vec_capacity l.answers)
