-- One row changed among those of the numbers from 1 to n: the first that passes a test
use Rattle.std.proofs.Common.{◌≡◌, ℕ, zero, suc, ◌+◌, ◌<◌, ◌≤◌, Bool, true, false, cond, not, ltb}
use Rattle.std.proofs.Common.{length, get_or, Some, None, ◌||◌, List, [], ◌∷◌, ◌++◌, refl, sym, ap}
use Rattle.std.proofs.Common.{◌∙◌}
use Rattle.std.proofs.Common.{subst, arith}
use Rattle.std.specs.List.{list_any, position, position_or_len}
use Rattle.std.proofs.Math.ListN.{set}
use Rattle.std.proofs.lemmas.Bool.{false≢true, ltb-true, ltb-false}
use Rattle.std.proofs.lemmas.Option.{cond_some}
use Rattle.std.proofs.lemmas.List.Folds.{list_any-append}
use Rattle.ck_journal.proofs.Selections.{selected, last_row, selected-suc, cond_none}
use Rattle.ck_journal.specs.Lists.{change_first}

module _ {X : Type 0} (test : X → Bool) (change : X → X) where
  change_first-append_step : (t : Bool) (x : X) (xs ys : List X) → test x ≡ t
      → change_first test change (xs ++ ys)
      ≡ change_first test change xs ++ cond (list_any test xs) ys
      (change_first test change ys)
      → cond t (change x ∷ (xs ++ ys)) (x ∷ change_first test change (xs ++ ys))
      ≡ cond t (change x ∷ xs) (x ∷ change_first test change xs) ++ cond (t || list_any test xs) ys
      (change_first test change ys)
  change_first-append_step true x xs ys e later = refl
  change_first-append_step false x xs ys e later = ap (λ rest. x ∷ rest) later

  change_first-append : (xs ys : List X)
      → change_first test change (xs ++ ys)
      ≡ change_first test change xs ++ cond (list_any test xs) ys
      (change_first test change ys)
  change_first-append [] ys = refl
  change_first-append (x ∷ xs) ys =
      change_first-append_step (test x) x xs ys refl (change_first-append xs ys)

  list_any-last_row : (p : Bool) (x : X) → test x ≡ false → list_any test (last_row p x) ≡ false
  list_any-last_row true x fails = ap (λ t. t || false) fails
  list_any-last_row false x fails = refl

  list_any-none : (passes : ℕ → Bool) (row : ℕ → X) (n : ℕ)
      → ((k : ℕ) → k ≤ n → test (row k) ≡ false)
      → list_any test (selected passes row n) ≡ false
  list_any-none passes row zero fails = refl
  list_any-none passes row (suc n) fails =
      ap (list_any test) (selected-suc passes row n)
      ∙ list_any-append test (selected passes row n) (last_row (passes (suc n)) (row (suc n)))
      ∙ rw (list_any-none passes row n (λ k h. fails k (omega arith)))
      (list_any-last_row (passes (suc n)) (row (suc n)) (fails (suc n) (omega arith)))

  module _ (passes : ℕ → Bool) (row row' : ℕ → X) where
    last_step : (p t any : Bool) (k : ℕ) → test (row k) ≡ t → (any ≡ true → t ≡ false)
        → (p ≡ true → t ≡ true → row' k ≡ change (row k)) → (t ≡ false → row' k ≡ row k)
        → cond any (last_row p (row k)) (change_first test change (last_row p (row k)))
        ≡ last_row p (row' k)
    last_step false t true k e unique replaced same = refl
    last_step false t false k e unique replaced same = refl
    last_step true t true k e unique replaced same = ap (λ r. r ∷ []) (sym (same (unique refl)))
    last_step true true false k e unique replaced same =
        ap (λ b. cond b (change (row k) ∷ []) (row k ∷ [])) e
        ∙ ap (λ r. r ∷ []) (sym (replaced refl refl))
    last_step true false false k e unique replaced same =
        ap (λ b. cond b (change (row k) ∷ []) (row k ∷ [])) e ∙ ap (λ r. r ∷ []) (sym (same refl))

    below_fails : (n k : ℕ) (t : Bool) → test (row k) ≡ t
        → ((j k : ℕ) → j ≤ suc n → k ≤ suc n → test (row j) ≡ true → test (row k) ≡ true → j ≡ k)
        → test (row (suc n)) ≡ true → k ≤ n → test (row k) ≡ false
    below_fails n k false e unique last below = e
    below_fails n k true e unique last below =
        let same : k ≡ suc n = unique k (suc n) (omega arith) (omega arith) e last in
        absurd (omega arith)

    -- where a row below passes, the last one doesn't
    fails_after : (n : ℕ) (t : Bool)
        → ((j k : ℕ) → j ≤ suc n → k ≤ suc n → test (row j) ≡ true → test (row k) ≡ true → j ≡ k)
        → test (row (suc n)) ≡ t → list_any test (selected passes row n) ≡ true → t ≡ false
    fails_after n false unique e any = refl
    fails_after n true unique e any =
        absurd (false≢true (sym (list_any-none passes row n
        (λ k below. below_fails n k (test (row k)) refl unique e below)) ∙ any))

    -- where at most one row passes, and the new rows are the old ones except that one
    pub selected-replaced : (n : ℕ)
        → ((j k : ℕ) → j ≤ n → k ≤ n → test (row j) ≡ true → test (row k) ≡ true → j ≡ k)
        → ((k : ℕ) → k ≤ n → passes k ≡ true → test (row k) ≡ true → row' k ≡ change (row k))
        → ((k : ℕ) → k ≤ n → test (row k) ≡ false → row' k ≡ row k)
        → change_first test change (selected passes row n) ≡ selected passes row' n
    selected-replaced zero unique replaced same = refl
    selected-replaced (suc n) unique replaced same =
        ap (change_first test change) (selected-suc passes row n)
        ∙ change_first-append (selected passes row n) (last_row (passes (suc n)) (row (suc n)))
        ∙ ap (λ xs. xs ++ cond (list_any test (selected passes row n))
        (last_row (passes (suc n)) (row (suc n))) (change_first test change
        (last_row (passes (suc n)) (row (suc n)))))
        (selected-replaced n (λ j k a b. unique j k (omega arith) (omega arith))
        (λ k a. replaced k (omega arith)) (λ k a. same k (omega arith)))
        ∙ ap (λ ys. selected passes row' n ++ ys)
        (last_step (passes (suc n)) (test (row (suc n))) (list_any test (selected passes row n))
        (suc n) refl
        (fails_after n (test (row (suc n))) unique refl) (replaced (suc n) (omega arith))
        (same (suc n) (omega arith)))
        ∙ sym (selected-suc passes row' n)

-- ---- the place of the first that passes

module _ {X : Type 0} (test : X → Bool) (change : X → X) where
  at_step : (t : Bool) (x : X) (xs : List X) (d : X)
      → (position_or_len test xs < length xs → set xs (position_or_len test xs)
      (change (get_or xs (position_or_len test xs) d)) ≡ change_first test change xs)
      → cond (not t) (suc (position_or_len test xs)) 0 < suc (length xs)
      → set (x ∷ xs) (cond (not t) (suc (position_or_len test xs)) 0)
      (change (get_or (x ∷ xs) (cond (not t) (suc (position_or_len test xs)) 0) d))
      ≡ cond t (change x ∷ xs) (x ∷ change_first test change xs)
  at_step true x xs d later within = refl
  at_step false x xs d later within = ap (λ rest. x ∷ rest) (later (omega arith))

  place-cons : (x : X) (xs : List X)
      → position_or_len test (x ∷ xs) ≡ cond (not (test x)) (suc (position_or_len test xs)) 0
  place-cons x xs =
      let e : 1 + position_or_len test xs ≡ suc (position_or_len test xs) = omega arith in ap
      (λ n. cond (not (test x)) n 0) e

  change_first-at : (xs : List X) (d : X) → position_or_len test xs < length xs
      → set xs (position_or_len test xs) (change (get_or xs (position_or_len test xs) d))
      ≡ change_first test change xs
  change_first-at [] d within = absurd (omega arith)
  change_first-at (x ∷ xs) d within =
      ap (λ n. set (x ∷ xs) n (change (get_or (x ∷ xs) n d))) (place-cons x xs)
      ∙ at_step (test x) x xs d (change_first-at xs d)
      (subst (λ n. n < suc (length xs)) (place-cons x xs) within)

  past_step : (t : Bool) (x : X) (xs : List X)
      → (length xs ≤ position_or_len test xs → xs ≡ change_first test change xs)
      → suc (length xs) ≤ cond (not t) (suc (position_or_len test xs)) 0
      → x ∷ xs ≡ cond t (change x ∷ xs) (x ∷ change_first test change xs)
  past_step true x xs later past = absurd (omega arith)
  past_step false x xs later past = ap (λ rest. x ∷ rest) (later (omega arith))

  change_first-past : (xs : List X) → length xs ≤ position_or_len test xs
      → xs ≡ change_first test change xs
  change_first-past [] past = refl
  change_first-past (x ∷ xs) past =
      past_step (test x) x xs (change_first-past xs)
      (subst (λ n. suc (length xs) ≤ n) (place-cons x xs) past)

  -- the item at the place of the first that passes
  pub change_first-place : (xs : List X) (place : ℕ) (x : X) → Some place ≡ position test xs
      → x ≡ get_or xs place x
      → set xs place (change x) ≡ change_first test change xs
  change_first-place xs place x found item =
      let p =
      cond_some (ltb (position_or_len test xs) (length xs)) (position_or_len test xs) place
      (sym found) in
      let within : position_or_len test xs < length xs = ltb-true _ _ p.0 in
      ap (λ y. set xs place (change y)) item ∙ ap (λ n. set xs n (change (get_or xs n x))) (sym p.1)
      ∙ change_first-at xs x within

  -- none passes
  pub change_first-no_place : (xs : List X) → None ≡ position test xs
      → xs ≡ change_first test change xs
  change_first-no_place xs none =
      change_first-past xs (ltb-false _ _ (cond_none (ltb (position_or_len test xs) (length xs))
      (position_or_len test xs) (sym none)))
