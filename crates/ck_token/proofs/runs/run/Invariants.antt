use Rattle.std.specs.Vec.Iter.{into_iter_items}
use Rattle.ck_token.proofs.RunLemmas.{Answers}
use Rattle.ck_token.proofs.runs.run.Given as goal

-- the token has answered the calls so far, and the rest is left
abbrev pub invariant-loop-caller : goal.invariant-loop-caller
invariant-loop-caller l =
    goal.iterator-loop-caller.can_next l.caller-iterator
    × goal.iterator-loop-caller.is_finite l.caller-iterator
    × Answers l.fn.token l.fn.calls.items l.answered (into_iter_items l.caller-iterator) l.token
