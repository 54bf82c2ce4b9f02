-- What a run means for scripts of calls, and for scripts of steps
use Rattle.std.proofs.Common.{Bool, true, false, List, [], ◌∷◌}
use Rattle.std.specs.List.{AllZip}
use Rattle.std.specs.Prelude.{MatchBool, vec_items}
use Rattle.ck_types.specs.TokenLimits.{Ranges}
use Rattle.ck_journal.specs.declared.calls.Call.{Call}
use Rattle.ck_journal.specs.declared.replies.Reply.{Reply}
use Rattle.ck_callers.specs.Callers.{HasCalled}
use Rattle.ck_callers.specs.Runs.{HasRun, AreMade, AreStepsTaken}
use Rattle.ck_callers.specs.Steps.{HasStepped, IsCall}
use Rattle.ck_callers.specs.declared.scripts.Script.{Script}
use Rattle.ck_callers.specs.declared.steps.Answered.{Answered}
use Rattle.ck_callers.specs.declared.steps.Step.{Step}
use Rattle.ck_callers.proofs.MakingCalls.{made_calls, knows_last}
use Rattle.ck_callers.proofs.Taking.{taken}

all_zip_weaker : {A B : Type 0} (P Q : A → B → Type 0) → ((x : A) (y : B) → P x y → Q x y)
    → (xs : List A) (ys : List B) → AllZip P xs ys → AllZip Q xs ys
all_zip_weaker P Q then [] [] each = tt
all_zip_weaker P Q then [] (y ∷ ys) each = each
all_zip_weaker P Q then (x ∷ xs) [] each = each
all_zip_weaker P Q then (x ∷ xs) (y ∷ ys) each =
    (then x y each.0, all_zip_weaker P Q then xs ys each.1)

match_weaker : (P Q R : Type 0) (b : Bool) → (P → Q) → MatchBool b P R → MatchBool b Q R
match_weaker P Q R true then holds = then holds
match_weaker P Q R false then holds = holds

module _ {K : Type 0} (limits : Ranges) where
  script_made : (old new : Script K Call Reply) → HasRun (HasCalled limits) (λ call. Unit {0}) old
      new
      → AreMade old new
  script_made old new = match_weaker _ _ _ new.started (λ made. (
    made_calls limits old.caller (vec_items old.steps) (vec_items new.answers) new.outcome
        new.caller made.0,
    made.1,
    knows_last limits old.caller (vec_items old.steps) (vec_items new.answers) new.outcome
        new.caller made.0,
  ))

  script_taken : (old new : Script K Step Answered) → HasRun (HasStepped limits) IsCall old new
      → AreStepsTaken limits old new
  script_taken old new = match_weaker _ _ _ new.started (λ made. (
    taken limits old.caller (vec_items old.steps) (vec_items new.answers) new.outcome new.caller
        made.0,
    made.1,
  ))

  pub all_made : (old new : List (Script K Call Reply))
      → AllZip (HasRun (HasCalled limits) (λ call. Unit {0})) old new → AllZip AreMade old new
  all_made = all_zip_weaker (HasRun (HasCalled limits) (λ call. Unit {0})) AreMade script_made

  pub all_taken : (old new : List (Script K Step Answered))
      → AllZip (HasRun (HasStepped limits) IsCall) old new → AllZip (AreStepsTaken limits) old new
  all_taken = all_zip_weaker (HasRun (HasStepped limits) IsCall) (AreStepsTaken limits) script_taken
