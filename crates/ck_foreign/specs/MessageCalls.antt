-- What becomes of a call with a message that lies in C's memory
use Rattle.std.specs.Prelude.{◌≡◌, ⊤, ℕ, Bool, true, false, List, Option, Some, None}
use Rattle.ck_types.specs.TokenLimits.{Ranges}
use Rattle.ck_journal.specs.declared.calls.Call.{Call}
use Rattle.ck_journal.specs.Histories.{History}
use Rattle.ck_journal.specs.Works.{IsBegun, IsDone, IsAhead}
use Rattle.ck_journal.specs.MemoryNeeds.{may_run_out}
use Rattle.ck_script.specs.Lines.{meaning}
use Rattle.ck_script.specs.declared.lines.Line.TheVariants as line
use Rattle.ck_foreign.specs.Calls.{IsCalled}
use Rattle.ck_foreign.specs.Outcomes.{outcome_number}
use Rattle.ck_foreign.specs.declared.message_calls.MessageCall.{MessageCall}
use Rattle.ck_foreign.specs.declared.message_calls.MessageCall.TheVariants as variant
use Rattle.ck_foreign.specs.declared.modules.Module.{Module}
use Rattle.ck_foreign.specs.declared.outcomes.Outcome.{Outcome}
use Rattle.ck_foreign.specs.declared.outcomes.Outcome.TheVariants as outcome

-- the call that the line means was given
abbrev pub IsGivenBy : List ℕ → MessageCall → Type 0
IsGivenBy bytes new =
    (caller : ℕ) × (c : Call) × (meaning bytes ≡ Some (line.Called caller c))
    × (new ≡ variant.Given c)

-- the work was begun, by a token with this history, for the call that was given; or nothing changed
abbrev pub IsBegin : History → MessageCall → MessageCall → Type 0
IsBegin h (variant.Given c) (variant.Begun begun w) = (begun ≡ c) × IsBegun h c w
IsBegin h old new = new ≡ old

abbrev pub has_begun : MessageCall → Bool
has_begun (variant.Begun c w) = true
has_begun other = false

-- work that was begun is done, for the same call; or nothing changed
abbrev pub IsTakenIn : MessageCall → MessageCall → Type 0
IsTakenIn (variant.Begun c begun) (variant.Done same w) =
    (same ≡ c) × ((h : History) → IsBegun h c begun → IsDone h c w)
IsTakenIn (variant.Begun c begun) new = ⊥
IsTakenIn old new = new ≡ old

-- where the work is done: the token that began it has this history, or had a front of it
abbrev pub IsWorkOf : History → MessageCall → Type 0
IsWorkOf h (variant.Done c w) = IsAhead h c w
IsWorkOf h other = ⊤

abbrev pub given_call : MessageCall → Option Call
given_call variant.Empty = None
given_call (variant.Given c) = Some c
given_call (variant.Begun c w) = Some c
given_call (variant.Done c w) = Some c

-- the call was made; where there is none, nothing has changed
abbrev pub IsMadeBy : ℕ → Option Call → Outcome → Module → Module → Type 0
IsMadeBy caller (Some c) made old new = IsCalled caller c made old new
IsMadeBy caller None made old new = (made ≡ outcome.NoCall) × (new ≡ old)

-- the same by the number that C is told
abbrev pub IsMade : ℕ → Option Call → ℕ → Module → Module → Type 0
IsMade caller c number old new =
    (s : Outcome) × (number ≡ outcome_number s) × IsMadeBy caller c s old new

-- there is a call, and besides the room for its entry it needs no memory
abbrev pub NeedsOnlyRoom : Ranges → History → Option Call → Type 0
NeedsOnlyRoom limits h (Some c) = may_run_out limits h c ≡ false
NeedsOnlyRoom limits h None = ⊥
