-- What a caller does step by step, whatever its steps are
use Rattle.std.specs.Prelude.{◌≡◌, List, [], ◌∷◌, Result, Ok, Err}
use Rattle.ck_types.specs.declared.memory.NoMemory.{NoMemory}
use Rattle.ck_callers.specs.Callers.{CallerState}

-- what is left when it ends: nothing, or the steps from the one on that found no memory, which is
-- one that may find none
abbrev pub EndsAt : {S : Type 0} → (S → Type 0) → List S → Result (Unit {0}) NoMemory → Type 0
EndsAt MayFail left (Ok done) = left ≡ []
EndsAt MayFail [] (Err none) = ⊥
EndsAt MayFail (s ∷ left) (Err none) = MayFail s

-- the caller has done each of these that has an answer, one after the other
abbrev pub HasMade : {S A : Type 0} → (CallerState → S → A → CallerState → Type 0) → (S → Type 0)
    → CallerState → List S → List A → Result (Unit {0}) NoMemory → CallerState → Type 0
HasMade Does MayFail old steps [] outcome new = (new ≡ old) × EndsAt MayFail steps outcome
HasMade Does MayFail old [] (a ∷ answers) outcome new = ⊥
HasMade Does MayFail old (s ∷ steps) (a ∷ answers) outcome new =
    (now : CallerState) × Does old s a now × HasMade Does MayFail now steps answers outcome new
