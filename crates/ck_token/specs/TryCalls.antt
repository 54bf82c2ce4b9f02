-- What a call gives whose codes other than CKR_OK are errors
use Rattle.std.specs.Prelude.{◌≡◌, ℕ, Result, Ok, Err}
use Rattle.ck_journal.specs.Answers.{answer}
use Rattle.ck_journal.specs.Bodies.{result_of}
use Rattle.ck_journal.specs.TokenStates.{TokenState, IsAnswered, IsUnchanged}
use Rattle.ck_journal.specs.declared.calls.Call.{Call}
use Rattle.ck_journal.specs.declared.replies.Body.{Body}
use Rattle.ck_token.specs.declared.try_calls.CallError.{CallError}
use Rattle.ck_token.specs.declared.try_calls.CallError.TheVariants as call_error

-- the call was answered with CKR_OK and this body, or with this error; or there was no memory for
-- it, and nothing has changed
abbrev pub IsTried : TokenState → TokenState → ℕ → Call → Result Body CallError → Type 0
IsTried old new caller c (Ok body) =
    (result_of (answer old.limits old.history c) ≡ Ok body)
    × IsAnswered old new caller c (answer old.limits old.history c)
IsTried old new caller c (Err (call_error.Refused error)) =
    (result_of (answer old.limits old.history c) ≡ Err error)
    × IsAnswered old new caller c (answer old.limits old.history c)
IsTried old new caller c (Err call_error.Memory) = IsUnchanged old new
