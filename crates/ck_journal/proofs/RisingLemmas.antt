-- Numbers that rise
use Rattle.std.proofs.Common.{◌≡◌, ℕ, zero, suc, ◌<◌, ◌≤◌, Bool, true, false, cond, List, [], ◌∷◌}
use Rattle.std.proofs.Common.{length, drop, get_or, refl, sym, ap, ◌∙◌, subst, arith}
use Rattle.std.specs.Prelude.{filter, nat_lt, nat_le}
use Rattle.std.specs.List.{All, AllPairs, AllWithin}
use Rattle.std.specs.List.Sorted.{IsNonDecreasingBy, IsPartitionPoint}
use Rattle.std.proofs.lemmas.Bool.{leb-true, leb-false, le-ltb, lt-ltb, ltb-true, ltb-false}
use Rattle.std.proofs.lemmas.List.Elements.{All-push}
use Rattle.std.proofs.lemmas.List.Kept.{IsNonDecreasingBy-filter}
use Rattle.std.proofs.lemmas.List.Quantifiers.{all_pairs_push}
use Rattle.std.proofs.lemmas.List.Sorted.{IsNonDecreasingBy-short}
use Rattle.ck_journal.specs.Histories.{History, start, ◌◁◌, done}
use Rattle.ck_journal.specs.Objects.{creations}
use Rattle.ck_journal.specs.Searches.{starts_search, matching_objects, search_template}
use Rattle.ck_journal.specs.Searches.{found_objects}
use Rattle.ck_journal.specs.Sessions.{numbers}

numbers-below : (n : ℕ) → All (λ k. k < suc n) (numbers n)
numbers-below zero = λ k d within. absurd (omega arith)
numbers-below (suc n) =
    All-push (λ k. k < suc (suc n)) (numbers n) (suc n) (λ k d within. omega
    (arith, numbers-below n k d within)) (omega arith)

-- each number is below all later ones
pub AllPairs-numbers : (n : ℕ) → AllPairs (λ j k. j < k) (numbers n)
AllPairs-numbers zero = λ i j d low within. absurd (omega arith)
AllPairs-numbers (suc n) =
    all_pairs_push (λ j k. j < k) (numbers n) (suc n) (AllPairs-numbers n) (numbers-below n)

rises : (ks : List ℕ) → AllPairs (λ j k. j < k) ks → IsNonDecreasingBy (λ k. k) ks
rises ks below i j d le within = place_case (nat_lt i j) refl
  where
    place_case : (t : Bool) → nat_lt i j ≡ t → get_or ks i d ≤ get_or ks j d
    place_case true t = let b = below i j d (ltb-true i j t) within in omega arith
    place_case false t =
        let high = ltb-false i j t in
        let same : i ≡ j = omega arith in
        subst (λ k. get_or ks i d ≤ get_or ks k d) same (omega arith)

numbers-rise : (n : ℕ) → IsNonDecreasingBy (λ k. k) (numbers n)
numbers-rise n = rises (numbers n) (AllPairs-numbers n)

found_step : (t : Bool) (fresh before : List ℕ) → IsNonDecreasingBy (λ k. k) fresh
    → IsNonDecreasingBy (λ k. k) before
    → IsNonDecreasingBy (λ k. k) (cond t fresh before)
found_step true fresh before f b = f
found_step false fresh before f b = b

-- what a search found rises
pub found_objects-rise : (h : History) (s : ℕ) → IsNonDecreasingBy (λ k. k) (found_objects h s)
found_objects-rise (start b) s = IsNonDecreasingBy-short (λ k. k) [] (omega arith)
found_objects-rise (e ◁ h) s =
    found_step (starts_search (done e) s) (matching_objects (e ◁ h) (search_template (done e)))
    (found_objects h s)
    (IsNonDecreasingBy-filter (λ k. k) _ (numbers (creations (e ◁ h)))
    (numbers-rise (creations (e ◁ h))))
    (found_objects-rise h s)

-- ---- what stands after a place

module _ (last : ℕ) where
  all_after : (ks : List ℕ) → AllWithin (λ k. nat_le k last ≡ false) ks 0 (length ks)
      → filter (λ k. nat_lt last k) ks ≡ ks
  all_after [] after = refl
  all_after (k ∷ ks) after =
      ap (λ t. cond t (k ∷ filter (λ j. nat_lt last j) ks) (filter (λ j. nat_lt last j) ks))
      (lt-ltb last k (leb-false k last (after 0 0 (omega arith) (omega arith))))
      ∙ ap (λ rest. k ∷ rest) (all_after ks
      (λ i d low high. after (suc i) d (omega arith) (omega arith)))

  not_above : (k : ℕ) → nat_le k last ≡ true → nat_lt last k ≡ false
  not_above k e = let below = leb-true k last e in le-ltb last k (omega arith)

  -- the numbers after the place up to which none is above the last are those above it
  pub drop-filter : (ks : List ℕ) (place : ℕ)
      → IsPartitionPoint (λ k. nat_le k last ≡ true) (λ k. nat_le k last ≡ false) ks place
      → drop place ks ≡ filter (λ k. nat_lt last k) ks
  drop-filter [] zero parted = refl
  drop-filter [] (suc place) parted = refl
  drop-filter (k ∷ ks) zero parted = sym (all_after (k ∷ ks) parted.1)
  drop-filter (k ∷ ks) (suc place) parted =
      drop-filter ks place (
        (λ i d low high. parted.0 (suc i) d (omega arith) (omega arith)),
        (λ i d low high. parted.1 (suc i) d (omega arith) (omega arith)),
      )
      ∙ sym (ap (λ t. cond t (k ∷ filter (λ j. nat_lt last j) ks) (filter (λ j. nat_lt last j) ks))
      (not_above k (parted.0 0 0 (omega arith) (omega arith))))
