-- Steps of which some were made
use Rattle.std.proofs.Common.{◌≡◌, List, [], ◌∷◌, ◌++◌, length, refl, sym, ap, ◌∙◌, subst}
use Rattle.std.proofs.lemmas.List.{append-nil, nil_from_length}
use mathlib.Core.List.{append_assoc}
use Rattle.std.specs.Prelude.{Result, Ok, Err, IsErr}
use Rattle.ck_types.specs.declared.memory.NoMemory.{NoMemory}
use Rattle.ck_callers.specs.Callers.{CallerState}
use Rattle.ck_callers.specs.NextSteps.{EndsAt, HasMade}

-- these replies were given, and these are left: whatever comes of them comes of all
pub record IsMaking {S A : Type 0} (Does : CallerState → S → A → CallerState → Type 0)
    (MayFail : S → Type 0)
    (old : CallerState) (steps : List S) (replies : List A) (left : List S) (now : CallerState) :
    Type 0 where
  pub all : (more : List A) (outcome : Result (Unit {0}) NoMemory) (new : CallerState)
      → HasMade Does MayFail now left more outcome new
      → HasMade Does MayFail old steps (replies ++ more) outcome new

module _ {S A : Type 0} (Does : CallerState → S → A → CallerState → Type 0) (MayFail : S → Type 0)
    (old : CallerState) (steps : List S) (replies : List A) (left : List S) (now : CallerState)
    (at : IsMaking Does MayFail old steps replies left now) where
  -- the next has this reply
  pub making_next : (s : S) (rest : List S) → left ≡ s ∷ rest → (reply : A) (new : CallerState)
      → Does now s reply new → (all : List A) → all ≡ replies ++ reply ∷ []
      → IsMaking Does MayFail old steps all rest new
  making_next s rest is reply new does all gives = record {
    all = λ more outcome last made.
        subst (λ rs. HasMade Does MayFail old steps rs outcome last)
        (sym (append_assoc replies (reply ∷ []) more) ∙ ap (λ rs. rs ++ more) (sym gives))
        (at.all (reply ∷ more) outcome last
        (subst (λ ss. HasMade Does MayFail now ss (reply ∷ more) outcome last) (sym is)
        (new, does, made)));
  }

  made_now : (outcome : Result (Unit {0}) NoMemory) → EndsAt MayFail left outcome
      → (new : CallerState) → new ≡ now
      → HasMade Does MayFail old steps replies outcome new
  made_now outcome end new same =
      subst (λ rs. HasMade Does MayFail old steps rs outcome new) (append-nil replies)
      (at.all [] outcome new (same, end))

  pub made_all : length left ≡ 0 → HasMade Does MayFail old steps replies (Ok tt) now
  made_all none = made_now (Ok tt) (nil_from_length left none) now refl

  -- the next found no memory
  pub made_before : (s : S) (rest : List S) → left ≡ s ∷ rest → MayFail s
      → (outcome : Result (Unit {0}) NoMemory) → IsErr outcome → (new : CallerState) → new ≡ now
      → HasMade Does MayFail old steps replies outcome new
  made_before s rest some fails (Ok done) refused new same = cc refused
  made_before s rest some fails (Err none) refused new same =
      made_now (Err none) (subst (λ ss. EndsAt MayFail ss (Err none)) (sym some) fails) new same
