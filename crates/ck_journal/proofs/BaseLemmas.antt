-- A history of no calls leaves the objects of the base that it starts from
use Rattle.std.proofs.Common.{◌≡◌, ℕ, zero, suc, ◌+◌, ◌<◌, ◌≤◌, Bool, true, false, List, []}
use Rattle.std.proofs.Common.{◌∷◌, ◌++◌, Option, Some, None, All, AllPairs, refl, sym, ap, ◌∙◌}
use Rattle.std.proofs.Common.{arith}
use Rattle.std.proofs.Common.{zero-add}
use Rattle.std.specs.Prelude.{◌==◌, find, filter_map, option_map}
use Rattle.std.specs.List.{cons_option}
use Rattle.std.proofs.lemmas.Bool.{eqb-true, eqb-false, ne_eqb}
use Rattle.std.proofs.lemmas.List.Elements.{All-head, All-tail, All-cons, All-weaker}
use Rattle.ck_journal.specs.declared.bases.Base.{Base}
use Rattle.ck_journal.specs.declared.bases.KeptObject.{KeptObject}
use Rattle.ck_journal.specs.Bases.{IsSound, IsCreated}
use Rattle.ck_journal.specs.Cuts.{kept_object, kept_objects, base_of}
use Rattle.ck_journal.specs.Histories.{start}
use Rattle.ck_journal.specs.Sessions.{numbers}

-- the next n numbers above another
abbrev above : ℕ → ℕ → List ℕ
above low zero = []
above low (suc n) = suc low ∷ above (suc low) n

above-more : (low n : ℕ) → above low n ++ suc (low + n) ∷ [] ≡ above low (suc n)
above-more low zero = let e : low + 0 ≡ low = omega arith in ap (λ k. suc k ∷ []) e
above-more low (suc n) =
    let e : low + suc n ≡ suc low + n = omega arith in
    ap (λ k. suc low ∷ (above (suc low) n ++ suc k ∷ [])) e
    ∙ ap (λ rest. suc low ∷ rest) (above-more (suc low) n)

numbers-above : (n : ℕ) → numbers n ≡ above 0 n
numbers-above zero = refl
numbers-above (suc n) =
    ap (λ ks. ks ++ suc n ∷ []) (numbers-above n)
    ∙ ap (λ k. above 0 n ++ suc k ∷ []) (sym (zero-add n))
    ∙ above-more 0 n

-- ---- the objects of a base by their numbers

abbrev row_in : List KeptObject → ℕ → Option KeptObject
row_in objects n =
    option_map (kept_object n)
    (option_map (λ (kept : KeptObject). kept.attributes)
    (find (λ (kept : KeptObject). kept.number == n) objects))

-- rows that agree on the numbers above another
rows-agree : (row row' : ℕ → Option KeptObject) (low n : ℕ) → ((k : ℕ) → low < k → row k ≡ row' k)
    → filter_map row (above low n) ≡ filter_map row' (above low n)
rows-agree row row' low zero same = refl
rows-agree row row' low (suc n) same =
    ap (λ found. cons_option found (filter_map row (above (suc low) n)))
    (same (suc low) (omega arith))
    ∙ ap (cons_option (row' (suc low)))
    (rows-agree row row' (suc low) n (λ k later. same k (omega arith)))

-- no object has a number that is below all
row-none : (objects : List KeptObject) (n : ℕ)
    → All (λ (kept : KeptObject). n < kept.number) objects
    → row_in objects n ≡ None
row-none [] n after = refl
row-none (kept ∷ objects) n after =
    let later = All-head (λ (k : KeptObject). n < k.number) kept objects after in
    rw (ne_eqb kept.number n (λ same. omega arith))
    (row-none objects n (All-tail (λ (k : KeptObject). n < k.number) kept objects after))

row-later : (kept : KeptObject) (objects : List KeptObject) (n : ℕ) → kept.number < n
    → row_in (kept ∷ objects) n ≡ row_in objects n
row-later kept objects n before = rw (ne_eqb kept.number n (λ same. omega arith)) refl

abbrev rises : KeptObject → KeptObject → Type 0
rises kept later = kept.number < later.number

abbrev is_within : ℕ → ℕ → KeptObject → Type 0
is_within low high kept = (low < kept.number) × (kept.number ≤ high)

rows-case : (low n : ℕ) (kept : KeptObject) (objects : List KeptObject) (here : Bool)
    → kept.number == suc low ≡ here → is_within low (low + suc n) kept
    → All (rises kept) objects → All (is_within low (low + suc n)) objects
    → (All (is_within (suc low) (suc low + n)) objects
    → filter_map (row_in objects) (above (suc low) n) ≡ objects)
    → (All (is_within (suc low) (suc low + n)) (kept ∷ objects)
    → filter_map (row_in (kept ∷ objects)) (above (suc low) n) ≡ kept ∷ objects)
    → filter_map (row_in (kept ∷ objects)) (above low (suc n)) ≡ kept ∷ objects
rows-case low n kept objects true here first rise within without with_it =
    let e : kept.number ≡ suc low = eqb-true kept.number (suc low) here in
    let row : row_in (kept ∷ objects) (suc low) ≡ Some kept =
    rw here (ap (λ k. Some (kept_object k kept.attributes)) (sym e)) in
    ap (λ found. cons_option found (filter_map (row_in (kept ∷ objects)) (above (suc low) n))) row
    ∙ ap (λ rest. kept ∷ rest)
    (rows-agree (row_in (kept ∷ objects)) (row_in objects) (suc low) n
    (λ k later. row-later kept objects k (omega (arith, e)))
    ∙ without (λ i d inside. let a = rise i d inside in let w = within i d inside in
    (omega (arith, e), omega (arith, w.1))))
rows-case low n kept objects false here first rise within without with_it =
    let low' = first.0 in
    let high = first.1 in
    let other = eqb-false kept.number (suc low) here in
    let past : suc low < kept.number = omega arith in
    let all : All (is_within (suc low) (suc low + n)) (kept ∷ objects) =
    All-cons (is_within (suc low) (suc low + n)) kept objects (past, omega arith)
    (λ i d inside. let a = rise i d inside in let w = within i d inside in
    (omega arith, omega (arith, w.1))) in
    ap (λ found. cons_option found (filter_map (row_in (kept ∷ objects)) (above (suc low) n)))
    (row-none (kept ∷ objects) (suc low)
    (All-weaker (is_within (suc low) (suc low + n)) (λ (k : KeptObject). suc low < k.number)
    (λ k w. w.0) (kept ∷ objects) all))
    ∙ with_it all

rows-all : (low n : ℕ) (objects : List KeptObject) → AllPairs rises objects
    → All (is_within low (low + n)) objects → filter_map (row_in objects) (above low n) ≡ objects
rows-all low zero [] rise within = refl
rows-all low zero (kept ∷ objects) rise within =
    let here = All-head (is_within low (low + 0)) kept objects within in
    let low' = here.0 in
    let high = here.1 in
    absurd (omega arith)
rows-all low (suc n) [] rise within =
    rows-all (suc low) n [] (λ i j d before inside. absurd (omega arith))
    (λ i d inside. absurd (omega arith))
rows-all low (suc n) (kept ∷ objects) rise within =
    rows-case low n kept objects (kept.number == suc low) refl
    (All-head (is_within low (low + suc n)) kept objects within)
    (λ i d inside. rise 0 (suc i) d (omega arith) (omega arith))
    (All-tail (is_within low (low + suc n)) kept objects within)
    (rows-all (suc low) n objects
    (λ i j d before inside. rise (suc i) (suc j) d (omega arith) (omega arith)))
    (rows-all (suc low) n (kept ∷ objects) rise)

pub start-objects : (b : Base) → IsSound b → kept_objects (start b) ≡ b.objects
start-objects b sound =
    ap (filter_map (row_in b.objects)) (numbers-above b.creations)
    ∙ rows-all 0 b.creations b.objects sound.rising
    (All-weaker (IsCreated b.creations) (is_within 0 (0 + b.creations))
    (λ kept created. let low = created.0 in let high = created.1 in (omega arith, omega arith))
    b.objects sound.numbers)

-- the base that a history of no calls leaves is its own
pub start-base : (b : Base) → IsSound b → base_of (start b) ≡ b
start-base b sound = ap (λ objects. record b { objects = objects }) (start-objects b sound)
