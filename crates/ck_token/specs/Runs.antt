-- What a run of a list of calls does to the token that it is lent
use Rattle.std.specs.Prelude.{ℕ, ◌<◌, List, Result, Ok, Err, length, take}
use Rattle.ck_journal.specs.declared.calls.Call.{Call}
use Rattle.ck_journal.specs.TokenStates.{TokenState, HasAnswered}
use Rattle.ck_token.specs.declared.runs.Stopped.{Stopped}

-- all calls were answered; or only this number of them, the first ones, which aren't all
abbrev pub IsRun :
    {T : Type 0} → TokenState → TokenState → List (ℕ × Call) → Result T Stopped → Type 0
IsRun old new calls (Ok finished) = HasAnswered old new calls
IsRun old new calls (Err stopped) =
    (stopped.answered < length calls) × HasAnswered old new (take stopped.answered calls)
