use Rattle.std.specs.Prelude.{◌≡◌, ◌+◌, ◌≤◌, ◌++◌, length, All, vec_items, vec_len, vec_capacity}
use Rattle.std.specs.Vec.Iter.{into_iter_items}
use Rattle.ck_program.specs.CallerCalls.{IsNewCaller, IsUnplayed, caller_numbers, script_numbers}
use Rattle.ck_program.proofs.thread_plays.scripts_of.Given as goal

-- the scripts of the callers so far; those that are left have made no calls, and are the callers of
-- the other numbers; and there is room for their scripts
abbrev pub invariant-loop-caller : goal.invariant-loop-caller
invariant-loop-caller g l =
    (goal.iterator-loop-caller g).can_next l.caller-iterator
    × (goal.iterator-loop-caller g).is_finite l.caller-iterator
    × All (IsUnplayed l.calls) (vec_items l.scripts)
    × All IsNewCaller (into_iter_items l.caller-iterator)
    × (script_numbers (vec_items l.scripts) ++ caller_numbers (into_iter_items l.caller-iterator)
    ≡ caller_numbers (vec_items l.fn.callers))
    × (vec_len l.scripts + length (into_iter_items l.caller-iterator) ≤ vec_capacity l.scripts)
