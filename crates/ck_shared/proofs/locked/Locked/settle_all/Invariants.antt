use Rattle.std.proofs.Common.{◌≡◌}
use Rattle.std.specs.Prelude.{All, vec_items}
use Rattle.std.specs.Vec.Iter.{into_iter_items}
use Rattle.ck_callers.specs.Callers.{IsSettled}
use Rattle.ck_shared.proofs.locked.Locked.settle_all.Given as goal

-- where the callers that are left are settled, all are
abbrev pub invariant-loop-caller : goal.invariant-loop-caller
invariant-loop-caller g l =
    (goal.iterator-loop-caller g).can_next l.caller-iterator
    × (goal.iterator-loop-caller g).is_finite l.caller-iterator
    × (l.self ≡ l.fn.self)
    × (All (IsSettled l.fn.self.history) (into_iter_items l.caller-iterator)
    → All (IsSettled l.fn.self.history) (vec_items l.fn.callers))
