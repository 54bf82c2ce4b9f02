-- Scripts that were run
use Rattle.std.specs.Prelude.{◌≡◌, [], MatchBool, vec_items}
use Rattle.ck_types.specs.TokenLimits.{Ranges}
use Rattle.ck_journal.specs.declared.calls.Call.{Call}
use Rattle.ck_journal.specs.declared.replies.Reply.{Reply}
use Rattle.ck_callers.specs.Callers.{CallerState}
use Rattle.ck_callers.specs.NextSteps.{HasMade}
use Rattle.ck_callers.specs.Scripts.{HasMadeCalls, KnowsItsLast}
use Rattle.ck_callers.specs.Steps.{HasTaken}
use Rattle.ck_callers.specs.declared.scripts.Script.{Script}
use Rattle.ck_callers.specs.declared.steps.Answered.{Answered}
use Rattle.ck_callers.specs.declared.steps.Step.{Step}

-- no thread could be made for the script: its caller has taken none of its steps, which are left
abbrev pub IsUntouched : {K S A : Type 0} → Script K S A → Script K S A → Type 0
IsUntouched old new =
    (new.caller ≡ old.caller) × (vec_items new.steps ≡ vec_items old.steps)
    × (vec_items new.answers ≡ []) × (new.outcome ≡ old.outcome)

-- the caller of the script has made its calls in a thread, and none are left
abbrev pub AreMade : {K : Type 0} → Script K Call Reply → Script K Call Reply → Type 0
AreMade old new =
    MatchBool new.started
    (HasMadeCalls old.caller (vec_items old.steps) (vec_items new.answers) new.outcome new.caller
    × (vec_items new.steps ≡ []) × KnowsItsLast (vec_items new.answers) old.caller new.caller)
    (IsUntouched old new)

-- the caller of the script has taken its steps in a thread, and none are left
abbrev pub AreStepsTaken : {K : Type 0} → Ranges → Script K Step Answered
    → Script K Step Answered → Type 0
AreStepsTaken limits old new =
    MatchBool new.started
    (HasTaken limits old.caller (vec_items old.steps) (vec_items new.answers) new.outcome
    new.caller × (vec_items new.steps ≡ []))
    (IsUntouched old new)

-- the same of any script
abbrev pub HasRun : {K S A : Type 0} → (CallerState → S → A → CallerState → Type 0)
    → (S → Type 0) → Script K S A → Script K S A → Type 0
HasRun Does MayFail old new =
    MatchBool new.started
    (HasMade Does MayFail old.caller (vec_items old.steps) (vec_items new.answers) new.outcome
    new.caller × (vec_items new.steps ≡ []))
    (IsUntouched old new)
