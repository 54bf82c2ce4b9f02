-- Threads that may not be made
use Rattle.std.proofs.Common.{Result, Ok, Err}
use Rattle.std.specs.Prelude.{MatchResult, IfOk, IfErr}

-- what follows from each of two outcomes, of which more is known
pub either_way : {T E : Type 0} (r : Result T E) (P P' : T → Type 0) (Q Q' : E → Type 0)
    (Goal : Type 0) → MatchResult r P Q → IfOk r P' → IfErr r Q'
    → ((x : T) → P x → P' x → Goal) → ((e : E) → Q e → Q' e → Goal) → Goal
either_way (Ok x) P P' Q Q' Goal is ok err then other = then x is ok
either_way (Err e) P P' Q Q' Goal is ok err then other = other e is err
