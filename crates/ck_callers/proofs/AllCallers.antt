-- Whether all callers are given back
use Rattle.std.proofs.Common.{◌≡◌, ℕ, zero, suc, ◌-◌, ◌==◌, ◌&&◌, Bool, true, false, List, refl}
use Rattle.std.proofs.Common.{sym}
use Rattle.std.proofs.Common.{ap, ◌∙◌, arith}
use Rattle.std.specs.List.{list_any}
use Rattle.ck_callers.specs.Callers.{CallerState, are_all}

pub all_here : (most : ℕ) (callers : List CallerState) (rest : Bool) → (most ≡ 0 → ⊥)
    → list_any (λ c. c.number == most) callers ≡ true → rest ≡ are_all (most - 1) callers
    → rest ≡ are_all most callers
all_here zero callers rest some here is = absurd (some refl)
all_here (suc n) callers rest some here is =
    let e : suc n - 1 ≡ n = omega arith in is ∙ ap (λ k. are_all k callers) e ∙ ap
    (λ b. b && are_all n callers) (sym here)

pub one_missing : (most : ℕ) (callers : List CallerState) → (most ≡ 0 → ⊥)
    → list_any (λ c. c.number == most) callers ≡ false → false ≡ are_all most callers
one_missing zero callers some here = absurd (some refl)
one_missing (suc n) callers some here = ap (λ b. b && are_all n callers) (sym here)
