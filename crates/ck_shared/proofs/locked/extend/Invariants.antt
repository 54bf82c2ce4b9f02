use Rattle.std.proofs.Common.{◌≡◌}
use Rattle.ck_shared.proofs.locked.extend.Given as goal

-- nothing was added yet
abbrev pub invariant-loop : goal.invariant-loop
invariant-loop g l =
    (goal.iterator-loop g).can_next l.iterator' × (goal.iterator-loop g).is_finite l.iterator'
    × (l.front ≡ l.fn.front)
