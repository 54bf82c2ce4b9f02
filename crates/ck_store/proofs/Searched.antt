-- The place of a number among items whose numbers rise
use Rattle.std.proofs.Common.{◌≡◌, ◌≢◌, ℕ, ◌<◌, ◌≤◌, Bool, true, false, List}
use Rattle.std.proofs.Common.{[], ◌∷◌, AllPairs, length, get_or, Some, None, Result, Ok, Err, refl}
use Rattle.std.proofs.Common.{sym, ap, ◌∙◌, subst, arith, inl, inr}
use Rattle.std.specs.Prelude.{◌==◌, Contains, nat_lt}
use Rattle.std.specs.List.{position, position_or_len}
use Rattle.std.specs.List.Sorted.{IsBinarySearchResult, IsNonDecreasingBy, IsSearchInRange}
use Rattle.std.specs.Ordering.{nat_cmp, ordering_index}
use Rattle.std.specs.Result.{result_ok}
use Rattle.std.proofs.lemmas.Bool.{eq-eqb, ne_eqb, cases_lt, lt-ltb, le-ltb, ltb-false}
use Rattle.std.proofs.lemmas.Bool.Decides.{nat_tests}
use Rattle.std.proofs.lemmas.Cmp.{ranked}
use Rattle.std.proofs.lemmas.List.Sums.{position_or_len_is, fails_before_first}
use Rattle.std.proofs.lemmas.List.{get_or_default}
use Rattle.ck_journal.proofs.Selections.{cond_none}

-- ---- what stands at the place of the first item that passes

module _ {X : Type 0} (test : X → Bool) where
  -- the first item that passes stands at this place
  position-at : (xs : List X) (place : ℕ) → place < length xs
      → ((d : X) → test (get_or xs place d) ≡ true)
      → ((k : ℕ) (d : X) → k < place → test (get_or xs k d) ≡ false) → Some place ≡ position test xs
  position-at [] place within passes before = absurd (omega arith)
  position-at (x ∷ xs) place within passes before =
      let first =
      position_or_len_is test (x ∷ xs) place x (omega arith) (λ k low. before k x low)
      (λ w. passes x) in
      sym (rw (first, lt-ltb place (length (x ∷ xs)) within))

  position-none_step : (xs : List X) → position_or_len test xs ≡ length xs → None ≡ position test xs
  position-none_step xs past = sym (rw (past, le-ltb (length xs) (length xs) (omega arith)))

  -- none passes
  position-none : (xs : List X) → ((k : ℕ) (d : X) → k < length xs → test (get_or xs k d) ≡ false)
      → None ≡ position test xs
  position-none [] fails = refl
  position-none (x ∷ xs) fails =
      position-none_step (x ∷ xs)
      (position_or_len_is test (x ∷ xs) (length (x ∷ xs)) x (omega arith) (λ k low. fails k x low)
      (λ w. absurd (omega arith)))

  position-None_len : (xs : List X) → None ≡ position test xs → length xs ≤ position_or_len test xs
  position-None_len xs e =
      ltb-false _ _ (cond_none (nat_lt (position_or_len test xs) (length xs))
      (position_or_len test xs) (sym e))

  -- and then none of these is among them
  pub position-None_Contains : (xs : List X) (x : X) → None ≡ position test xs → Contains xs x
      → test x ≡ false
  position-None_Contains xs x e there =
      let past = position-None_len xs e in
      ap test (sym there.2)
      ∙ fails_before_first test xs there.0 x (omega (arith, there.1))

-- ---- numbers that rise

module _ {X : Type 0} (number : X → ℕ) (xs : List X)
    (rise : AllPairs (λ (x : X) (y : X). number x < number y) xs) where
  module _ (wanted : ℕ) where
    abbrev has_wanted : X → Bool
    has_wanted x = number x == wanted

    -- so the comparisons with a number don't fall, as the search asks
    comparisons_rise : IsNonDecreasingBy (λ x. ordering_index (nat_cmp (number x) wanted)) xs
    comparisons_rise i j d low within =
        let risen : number (get_or xs i d) ≤ number (get_or xs j d) =
        grind (arith, rise i j d, λ (same : i ≡ j). ap (λ k. number (get_or xs k d)) same) in
        grind (arith, nat_tests)

    -- a binary search gives the place of the number
    pub place-searched : (r : Result ℕ ℕ) → IsSearchInRange r (length xs)
        → IsBinarySearchResult (λ x. nat_cmp (number x) wanted) xs r
        → result_ok r ≡ position has_wanted xs
    place-searched (Ok place) within equal =
        let here : (d : X) → number (get_or xs place d) ≡ wanted =
        λ d. ranked (number (get_or xs place d)) wanted _ (sym (equal d)) in
        position-at has_wanted xs place within (λ d. eq-eqb _ _ (here d))
        (λ k d low. ne_eqb _ _ (λ other. omega (arith, here d, rise k place d low within)))
    place-searched (Err place) within parted =
        position-none has_wanted xs (λ k d below. ne_eqb _ _ (apart k d below))
      where
        apart : (k : ℕ) (d : X) → k < length xs → number (get_or xs k d) ≢ wanted
        apart k d below = elim (cases_lt k place) [
          | inl low ↦ λ same.
              omega (
                arith,
                ranked _ wanted _ (sym ((parted comparisons_rise).0 k d (omega arith) low)),
              )
          | inr high ↦ λ same.
              omega (arith, ranked _ wanted _ (sym ((parted comparisons_rise).1 k d high below)))
        ]

    -- and the item at a place has it
    pub place-guessed : (i : ℕ) (d : X) → i < length xs → number (get_or xs i d) ≡ wanted
        → Some i ≡ position has_wanted xs
    place-guessed i d within is =
        let here : (e : X) → number (get_or xs i e) ≡ wanted =
        λ e. ap number (get_or_default xs i e d within) ∙ is in
        position-at has_wanted xs i within (λ e. eq-eqb _ _ (here e))
        (λ k e low. ne_eqb _ _ (λ other. omega (arith, here e, rise k i e low within)))

  -- an item is the only one of its number
  pub rises-once : (x y : X) → Contains xs x → Contains xs y → number x ≡ number y → x ≡ y
  rises-once x y here there same = elim (cases_lt here.0 there.0) [
    | inl low ↦ absurd (omega (arith, apart here.0 there.0 x y x low here.1 there.1 here.2 there.2))
    | inr high ↦ elim (cases_lt there.0 here.0) [
      | inl low ↦ absurd (omega (
        arith,
        apart there.0 here.0 y x y low there.1 here.1 there.2
            here.2,
      ))
      | inr higher ↦
          let at : here.0 ≡ there.0 = omega arith in
          sym here.2 ∙ ap (λ k. get_or xs k x) at ∙ get_or_default xs there.0 x y there.1 ∙ there.2
    ]
  ]
    where
      apart : (i j : ℕ) (a b d : X) → i < j → i < length xs → j < length xs → get_or xs i a ≡ a
          → get_or xs j b ≡ b → number a < number b
      apart i j a b d low in_i in_j is_a is_b =
          let r = rise i j d low in_j in
          let ea : get_or xs i d ≡ a = get_or_default xs i d a in_i ∙ is_a in
          let eb : get_or xs j d ≡ b = get_or_default xs j d b in_j ∙ is_b in
          subst (λ n. n < number b) (ap number ea)
          (subst (λ n. number (get_or xs i d) < n) (ap number eb) r)
