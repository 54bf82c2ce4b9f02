use Rattle.std.specs.Prelude.{◌≡◌, ◌+◌, ◌≤◌, ◌++◌, ℕ, List, length, All}
use Rattle.std.specs.Prelude.{vec_items, vec_len, vec_capacity}
use Rattle.std.specs.Vec.Iter.{into_iter_items}
use Rattle.ck_journal.specs.declared.calls.Call.{Call}
use Rattle.ck_program.specs.CallerCalls.{HadThread, HasMadeAll, IsPlayedAll, caller_numbers}
use Rattle.ck_program.specs.CallerCalls.{script_numbers}
use Rattle.ck_program.proofs.thread_plays.callers_of.Given as goal

-- the callers so far have made all of their calls; those of the scripts that are left have the
-- other numbers; where all scripts had threads, so had these; and there is room for their callers
abbrev pub invariant-loop-script : goal.invariant-loop-script
invariant-loop-script g l =
    (goal.iterator-loop-script g).can_next l.script-iterator
    × (goal.iterator-loop-script g).is_finite l.script-iterator
    × ((calls : List (ℕ × Call)) → All (IsPlayedAll calls) (vec_items l.fn.scripts)
    → All (HasMadeAll calls) (vec_items l.callers) × All (IsPlayedAll calls)
    (into_iter_items l.script-iterator))
    × (caller_numbers (vec_items l.callers) ++ script_numbers (into_iter_items l.script-iterator)
    ≡ script_numbers (vec_items l.fn.scripts))
    × (All HadThread (vec_items l.fn.scripts) → All HadThread (into_iter_items l.script-iterator))
    × (vec_len l.callers + length (into_iter_items l.script-iterator) ≤ vec_capacity l.callers)
