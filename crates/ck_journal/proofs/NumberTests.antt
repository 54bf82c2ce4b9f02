-- Tests on numbers, and what is left of a fact that a call ends
use Rattle.std.proofs.Common.{◌≡◌, ℕ, suc, ◌≤◌, Bool, true, false, cond, not, ◌&&◌, refl, sym}
use Rattle.std.proofs.Common.{arith}
use Rattle.std.specs.Prelude.{◌==◌}
use Rattle.std.proofs.lemmas.Bool.{eq-eqb, ne_eqb, eqb-true, eqb-false}

pub below_suc : (k n : ℕ) → k ≤ n → k == suc n ≡ false
below_suc k n h = ne_eqb k (suc n) (λ e. omega arith)

pub same_number : (k : ℕ) → k == k ≡ true
same_number k = eq-eqb k k refl

pub eqb-swap : (a b : ℕ) → a == b ≡ b == a
eqb-swap a b = swap (a == b) refl
  where
    swap : (t : Bool) → a == b ≡ t → t ≡ b == a
    swap true e = sym (eq-eqb b a (sym (eqb-true a b e)))
    swap false e = sym (ne_eqb b a (λ same. eqb-false a b e (sym same)))

-- what was so and hasn't been ended
pub ended_test : (ended was_so : Bool) → cond ended false was_so ≡ was_so && not ended
ended_test true true = refl
ended_test true false = refl
ended_test false true = refl
ended_test false false = refl
