-- The outputs of callers' work
use Rattle.std.specs.Prelude.{◌≡◌}
use Rattle.ck_journal.specs.Histories.{History}
use Rattle.ck_callers.specs.Callers.{CallerState, IsSettled}

-- the caller has done its work, and comes back with the output: it keeps its number, and `holds` is
-- so of the caller before its work, of the caller after it and of the output
abbrev pub HasActed : {Output : Type 0} → (CallerState → CallerState → Output → Type 0)
    → CallerState → Output × CallerState → Type 0
HasActed holds caller done = (done.1.number ≡ caller.number) × holds caller done.1 done.0

-- `holds` is so of the caller before its work, of the caller after it and of the output; the caller
-- keeps its number, what it knows afterwards is a front of the history, and the history's entries
-- of the caller are those of its answered calls
abbrev pub IsOfCaller : {Output : Type 0} → (CallerState → CallerState → Output → Type 0)
    → History → CallerState → Output → Type 0
IsOfCaller holds h caller output =
    (after : CallerState) × (after.number ≡ caller.number) × IsSettled h after
    × holds caller after output
