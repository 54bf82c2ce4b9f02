-- Lists of rows that are read off the numbers from 1 to n: those that pass a test, each as its row
use Rattle.std.proofs.Common.{◌≡◌, ◌≢◌, ℕ, zero, suc, ◌<◌, ◌≤◌, Bool, true, false, cond, not, ◌&&◌}
use Rattle.std.proofs.Common.{◌||◌, List, [], ◌∷◌, ◌++◌, Option, Some, None, All, AllPairs, length}
use Rattle.std.proofs.Common.{subst, refl, sym, ap, ◌∙◌, arith, inl, inr}
use Rattle.std.specs.Prelude.{◌==◌, map, filter, filter_map, find, option_map, option_and_then}
use Rattle.std.specs.Prelude.{is_some}
use Rattle.std.proofs.Math.Bool.{and-true, and-false, or-false, or-true}
use Rattle.std.proofs.lemmas.Option.{same_Some}
use Rattle.std.specs.List.{list_any, cons_option}
use Rattle.std.specs.Option.{option_map_or}
use Rattle.std.proofs.lemmas.Bool.{eqb-true, eqb-false, ne_eqb, cases_Bool}
use Rattle.std.proofs.lemmas.List.{append-nil, map-append, length-map}
use Rattle.std.proofs.lemmas.List.Elements.{filter-append, filter_map-append, All-append, All-cons}
use Rattle.std.proofs.lemmas.List.Elements.{All-nil, All-weaker}
use Rattle.std.proofs.lemmas.List.Folds.{list_any-append}
use Rattle.std.proofs.lemmas.List.Quantifiers.{all_pairs_push}
use Rattle.ck_journal.specs.Sessions.{numbers}

module _ {X : Type 0} where
  -- the rows of the numbers from 1 to n that pass the test
  abbrev pub selected : (ℕ → Bool) → (ℕ → X) → ℕ → List X
  selected test row n = map row (filter test (numbers n))

  -- the row of one more number, where it passes
  abbrev pub last_row : Bool → X → List X
  last_row passes row = cond passes (row ∷ []) []

  map-cond_one : (row : ℕ → X) (k : ℕ) (passes : Bool)
      → map row (cond passes (k ∷ []) []) ≡ last_row passes (row k)
  map-cond_one row k true = refl
  map-cond_one row k false = refl

  -- one more number
  pub selected-suc : (test : ℕ → Bool) (row : ℕ → X) (n : ℕ)
      → selected test row (suc n) ≡ selected test row n ++ last_row (test (suc n)) (row (suc n))
  selected-suc test row n =
      ap (map row) (filter-append test (numbers n) (suc n ∷ []))
      ∙ map-append row (filter test (numbers n)) (filter test (suc n ∷ []))
      ∙ ap (λ rows. selected test row n ++ rows) (map-cond_one row (suc n) (test (suc n)))

  -- tests and rows that agree on the numbers up to n
  pub selected-same : (test test' : ℕ → Bool) (row row' : ℕ → X) (n : ℕ)
      → ((k : ℕ) → k ≤ n → test k ≡ test' k)
      → ((k : ℕ) → k ≤ n → row k ≡ row' k)
      → selected test row n ≡ selected test' row' n
  selected-same test test' row row' zero tests rows = refl
  selected-same test test' row row' (suc n) tests rows =
      let below =
      selected-same test test' row row' n (λ k h. tests k (omega arith))
      (λ k h. rows k (omega arith)) in
      let here : last_row (test (suc n)) (row (suc n)) ≡ last_row (test' (suc n)) (row' (suc n)) =
      rw (tests (suc n) (omega arith), rows (suc n) (omega arith)) in
      selected-suc test row n ∙ ap (λ xs. xs ++ last_row (test (suc n)) (row (suc n))) below
      ∙ ap (λ xs. selected test' row' n ++ xs) here ∙ sym (selected-suc test' row' n)

  -- no number passes
  pub selected-none : (test : ℕ → Bool) (row : ℕ → X) (n : ℕ) → ((k : ℕ) → k ≤ n → test k ≡ false)
      → selected test row n ≡ []
  selected-none test row zero fails = refl
  selected-none test row (suc n) fails =
      selected-suc test row n
      ∙ rw (selected-none test row n (λ k h. fails k (omega arith)), fails (suc n) (omega arith))

  filter-map_step : (again : X → Bool) (row : ℕ → X) (k : ℕ) (ks : List ℕ) (passes : Bool)
      → filter again (map row ks) ≡ map row (filter (λ j. again (row j)) ks)
      → cond passes (row k ∷ filter again (map row ks)) (filter again (map row ks)) ≡ map row
      (cond passes (k ∷ filter (λ j. again (row j)) ks) (filter (λ j. again (row j)) ks))
  filter-map_step again row k ks true later = ap (λ rows. row k ∷ rows) later
  filter-map_step again row k ks false later = later

  -- the rows that pass are those of the numbers whose rows pass
  pub filter-map : (again : X → Bool) (row : ℕ → X) (ks : List ℕ)
      → filter again (map row ks) ≡ map row (filter (λ k. again (row k)) ks)
  filter-map again row [] = refl
  filter-map again row (k ∷ ks) =
      filter-map_step again row k ks (again (row k)) (filter-map again row ks)

filter-filter_step : (again test : ℕ → Bool) (k : ℕ) (ks : List ℕ) (passes : Bool)
    → filter again (filter test ks) ≡ filter (λ j. test j && again j) ks
    → filter again (cond passes (k ∷ filter test ks) (filter test ks))
    ≡ cond (passes && again k) (k ∷ filter (λ j. test j && again j) ks)
    (filter (λ j. test j && again j) ks)
filter-filter_step again test k ks true later = ap (λ rest. cond (again k) (k ∷ rest) rest) later
filter-filter_step again test k ks false later = later

filter-filter : (again test : ℕ → Bool) (ks : List ℕ)
    → filter again (filter test ks) ≡ filter (λ k. test k && again k) ks
filter-filter again test [] = refl
filter-filter again test (k ∷ ks) =
    filter-filter_step again test k ks (test k) (filter-filter again test ks)

module _ {X : Type 0} where
  -- a further test of the rows
  pub filter-selected : (again : X → Bool) (test : ℕ → Bool) (row : ℕ → X) (n : ℕ)
      → filter again (selected test row n) ≡ selected (λ k. test k && again (row k)) row n
  filter-selected again test row n =
      filter-map again row (filter test (numbers n))
      ∙ ap (map row) (filter-filter (λ k. again (row k)) test (numbers n))

  -- as many rows as numbers that pass
  pub length-selected : (test : ℕ → Bool) (row : ℕ → X) (n : ℕ)
      → length (selected test row n) ≡ length (filter test (numbers n))
  length-selected test row n = length-map (filter test (numbers n)) row

  list_any-cond : (wanted : X → Bool) (row : ℕ → X) (passes : Bool) (k : ℕ) (ks : List ℕ)
      → list_any wanted (map row (cond passes (k ∷ ks) ks))
      ≡ (passes && wanted (row k)) || list_any wanted (map row ks)
  list_any-cond wanted row true k ks = refl
  list_any-cond wanted row false k ks = refl

  -- whether a row is wanted: some number passes and its row is
  list_any-filter : (wanted : X → Bool) (test : ℕ → Bool) (row : ℕ → X) (ks : List ℕ)
      → list_any wanted (map row (filter test ks)) ≡ list_any (λ k. test k && wanted (row k)) ks
  list_any-filter wanted test row [] = refl
  list_any-filter wanted test row (k ∷ ks) =
      list_any-cond wanted row (test k) k (filter test ks)
      ∙ ap (λ b. (test k && wanted (row k)) || b) (list_any-filter wanted test row ks)

  pub list_any-selected : (wanted : X → Bool) (test : ℕ → Bool) (row : ℕ → X) (n : ℕ)
      → list_any wanted (selected test row n) ≡ list_any (λ k. test k && wanted (row k)) (numbers n)
  list_any-selected wanted test row n = list_any-filter wanted test row (numbers n)

list_any_last : (test : ℕ → Bool) (n : ℕ)
    → list_any test (numbers (suc n)) ≡ list_any test (numbers n) || test (suc n)
list_any_last test n = list_any-append test (numbers n) (suc n ∷ [])
    ∙ ap (λ b. list_any test (numbers n) || b) (or-false (test (suc n)))

-- no number up to n is s
list_any-past : (test : ℕ → Bool) (s n : ℕ) → n < s
    → list_any (λ k. test k && k == s) (numbers n) ≡ false
list_any-past test s zero h = refl
list_any-past test s (suc n) h =
    let other : suc n == s ≡ false = ne_eqb (suc n) s (λ e. omega arith) in
    list_any_last (λ k. test k && k == s) n
    ∙ rw (list_any-past test s n (omega arith), other) (and-false (test (suc n)))

list_any-at_step : (test : ℕ → Bool) (s n : ℕ) (same : Bool) → suc n == s ≡ same
    → (test s ≡ true → (1 ≤ s) × (s ≤ suc n))
    → ((test s ≡ true → (1 ≤ s) × (s ≤ n)) → list_any (λ k. test k && k == s) (numbers n) ≡ test s)
    → list_any (λ k. test k && k == s) (numbers (suc n)) ≡ test s
list_any-at_step test s n true same within below =
    let e : suc n ≡ s = eqb-true (suc n) s same in
    list_any_last (λ k. test k && k == s) n
    ∙ rw (list_any-past test s n (omega arith), same, e) (and-true (test s))
list_any-at_step test s n false same within below =
    list_any_last (λ k. test k && k == s) n
    ∙ rw (
      same,
      and-false,
      below (λ t. (
        (within t).0,
        ne_below s n (within t).1
            (λ e. eqb-false (suc n) s same e),
      )),
    ) (or-false (test s))
  where
    ne_below : (s n : ℕ) → s ≤ suc n → (suc n ≡ s → ⊥) → s ≤ n
    ne_below s n h other = omega arith

-- the one number that can pass, where it is among the numbers up to n if it does
pub list_any-at : (test : ℕ → Bool) (s n : ℕ) → (test s ≡ true → (1 ≤ s) × (s ≤ n)) → list_any
    (λ k. test k && k == s) (numbers n) ≡ test s
list_any-at test s zero within = elim (cases_Bool (test s)) [
  | inl passes ↦ absurd (zero_between s (within passes).0 (within passes).1)
  | inr fails ↦ sym fails
]
  where
    zero_between : (s : ℕ) → 1 ≤ s → s ≤ 0 → ⊥
    zero_between s a b = omega arith
list_any-at test s (suc n) within =
    list_any-at_step test s n (suc n == s) refl within (list_any-at test s n)

module _ {K X : Type 0} where
  find-map_step : (wanted : X → Bool) (row : K → X) (k : K) (ks : List K) (found : Bool)
      → find wanted (map row ks) ≡ option_map row (find (λ j. wanted (row j)) ks)
      → cond found (Some (row k)) (find wanted (map row ks)) ≡ option_map row
      (cond found (Some k) (find (λ j. wanted (row j)) ks))
  find-map_step wanted row k ks true later = refl
  find-map_step wanted row k ks false later = later

  -- the first row that is wanted is that of the first item whose row is
  pub find-map : (wanted : X → Bool) (row : K → X) (ks : List K)
      → find wanted (map row ks) ≡ option_map row (find (λ k. wanted (row k)) ks)
  find-map wanted row [] = refl
  find-map wanted row (k ∷ ks) =
      find-map_step wanted row k ks (wanted (row k)) (find-map wanted row ks)

module _ {X : Type 0} where
  last_row-same : (p : Bool) (x y : X) → (p ≡ true → x ≡ y) → last_row p x ≡ last_row p y
  last_row-same true x y same = ap (λ r. r ∷ []) (same refl)
  last_row-same false x y same = refl

  -- rows that agree where the test passes
  pub selected-rows_same : (test : ℕ → Bool) (row row' : ℕ → X) (n : ℕ)
      → ((k : ℕ) → k ≤ n → test k ≡ true → row k ≡ row' k)
      → selected test row n ≡ selected test row' n
  selected-rows_same test row row' zero same = refl
  selected-rows_same test row row' (suc n) same =
      selected-suc test row n
      ∙ ap (λ xs. xs ++ last_row (test (suc n)) (row (suc n)))
      (selected-rows_same test row row' n (λ k h. same k (omega arith)))
      ∙ ap (λ xs. selected test row' n ++ xs)
      (last_row-same (test (suc n)) (row (suc n)) (row' (suc n))
      (same (suc n) (omega arith)))
      ∙ sym (selected-suc test row' n)

-- ---- what is found

-- where nothing is, the test fails
pub cond_none : {X : Type 0} (t : Bool) (x : X) → cond t (Some x) None ≡ None → t ≡ false
cond_none true x e = cc
cond_none false x e = refl

pub is_some-cond : {X : Type 0} (t : Bool) (x : X) (found : Option X) (any : Bool)
    → is_some found ≡ any
    → is_some (cond t (Some x) found) ≡ t || any
is_some-cond true x found any e = refl
is_some-cond false x found any e = e

-- something is found where something passes
pub is_some-find : {X : Type 0} (test : X → Bool) (xs : List X)
    → is_some (find test xs) ≡ list_any test xs
is_some-find test [] = refl
is_some-find test (x ∷ xs) =
    is_some-cond (test x) x (find test xs) (list_any test xs) (is_some-find test xs)

passes-cond : (test : ℕ → Bool) (t : Bool) (k j : ℕ) (found : Option ℕ) → test k ≡ t
    → (found ≡ Some j → test j ≡ true) → cond t (Some k) found ≡ Some j → test j ≡ true
passes-cond test true k j found t later e = subst (λ n. test n ≡ true) (same_Some k j e) t
passes-cond test false k j found t later e = later e

-- what is found passes
pub find-passes : (test : ℕ → Bool) (ks : List ℕ) (j : ℕ) → find test ks ≡ Some j → test j ≡ true
find-passes test [] j e = cc
find-passes test (k ∷ ks) j e =
    passes-cond test (test k) k j (find test ks) refl (find-passes test ks j) e

member_step : (test : ℕ → Bool) (k n : ℕ) (same : Bool) → k == suc n ≡ same → k ≤ suc n
    → test k ≡ true
    → (k ≤ n → list_any test (numbers n) ≡ true)
    → (list_any test (numbers n) || test (suc n)) ≡ true
member_step test k n true e high t below =
    ap (λ b. list_any test (numbers n) || b) (subst (λ j. test j ≡ true) (eqb-true k (suc n) e) t)
    ∙ or-true (list_any test (numbers n))
member_step test k n false e high t below =
    let other : k ≢ suc n = eqb-false k (suc n) e in
    let low : k ≤ n = omega arith in
    ap (λ b. b || test (suc n)) (below low)

-- a number up to n that passes
pub list_any-member : (test : ℕ → Bool) (k n : ℕ) → 1 ≤ k → k ≤ n → test k ≡ true
    → list_any test (numbers n) ≡ true
list_any-member test k zero low high t = absurd (omega arith)
list_any-member test k (suc n) low high t =
    list_any_last test n ∙ member_step test k n (k == suc n) refl high t
    (λ b. list_any-member test k n low b t)

-- where only one number can pass, and is among those up to n if it does
pub find-only : (test : ℕ → Bool) (k n : ℕ) → ((j : ℕ) → test j ≡ true → j ≡ k)
    → (test k ≡ true → (1 ≤ k) × (k ≤ n))
    → find test (numbers n) ≡ cond (test k) (Some k) None
find-only test k n only within = only_case (find test (numbers n)) (test k) refl refl
  where
    only_case : (found : Option ℕ) (t : Bool) → find test (numbers n) ≡ found → test k ≡ t
        → found ≡ cond t (Some k) None
    only_case None true f e =
        let some : is_some (find test (numbers n)) ≡ true = is_some-find test (numbers n)
        ∙ list_any-member test k n (within e).0 (within e).1 e in
        let wrong : false ≡ true = ap is_some (sym f) ∙ some in
        cc
    only_case None false f e = refl
    only_case (Some j) t f e =
        let passes = find-passes test (numbers n) j f in
        let same = only j passes in
        let here : t ≡ true = sym e ∙ ap test (sym same) ∙ passes in
        ap Some same ∙ sym (ap (λ b. cond b (Some k) None) here)

-- ---- rows of the numbers that have one

module _ {X : Type 0} where
  -- one more number
  pub filter_map-suc : (row : ℕ → Option X) (n : ℕ)
      → filter_map row (numbers (suc n))
      ≡ filter_map row (numbers n) ++ cons_option (row (suc n)) []
  filter_map-suc row n = filter_map-append row (numbers n) (suc n ∷ [])

  -- rows that agree on the numbers up to n
  pub filter_map-same : (row row' : ℕ → Option X) (n : ℕ) → ((k : ℕ) → k ≤ n → row k ≡ row' k)
      → filter_map row (numbers n) ≡ filter_map row' (numbers n)
  filter_map-same row row' zero same = refl
  filter_map-same row row' (suc n) same =
      filter_map-suc row n
      ∙ ap (λ xs. xs ++ cons_option (row (suc n)) [])
      (filter_map-same row row' n (λ k below. same k (omega arith)))
      ∙ ap (λ found. filter_map row' (numbers n) ++ cons_option found [])
      (same (suc n) (omega arith))
      ∙ sym (filter_map-suc row' n)

  then_step : (change : X → Option X) (found : Option X) (xs : List X)
      → filter_map change (cons_option found xs)
      ≡ cons_option (option_and_then change found) (filter_map change xs)
  then_step change None xs = refl
  then_step change (Some x) xs = refl

  -- a change or an end of each row by itself
  pub filter_map-then : (change : X → Option X) (row : ℕ → Option X) (ks : List ℕ)
      → filter_map change (filter_map row ks) ≡ filter_map (λ k. option_and_then change (row k)) ks
  filter_map-then change row [] = refl
  filter_map-then change row (k ∷ ks) =
      then_step change (row k) (filter_map row ks)
      ∙ ap (cons_option (option_and_then change (row k))) (filter_map-then change row ks)

  kept_step : (passes : Bool) (x : X) (xs : List X)
      → cond (not passes) (x ∷ xs) xs ≡ cons_option (cond passes None (Some x)) xs
  kept_step true x xs = refl
  kept_step false x xs = refl

  -- the end of the rows of a test, and of no others
  pub filter_map-kept : (test : X → Bool) (xs : List X)
      → filter (λ x. not (test x)) xs ≡ filter_map (λ x. cond (test x) None (Some x)) xs
  filter_map-kept test [] = refl
  filter_map-kept test (x ∷ xs) =
      kept_step (test x) x (filter (λ y. not (test y)) xs)
      ∙ ap (cons_option (cond (test x) None (Some x))) (filter_map-kept test xs)

  -- a change of rows that ends none
  pub filter_map-changed : (change : X → X) (xs : List X)
      → map change xs ≡ filter_map (λ x. Some (change x)) xs
  filter_map-changed change [] = refl
  filter_map-changed change (x ∷ xs) = ap (λ rest. change x ∷ rest) (filter_map-changed change xs)

  module _ (wanted : X → Bool) (row : ℕ → Option X) where
    wanted_found : (k : ℕ) (x : X) (rest : Option ℕ) (rows : List X) → row k ≡ Some x
        → find wanted rows ≡ option_and_then row rest → (t : Bool)
        → cond t (Some x) (find wanted rows) ≡ option_and_then row (cond t (Some k) rest)
    wanted_found k x rest rows e later true = sym e
    wanted_found k x rest rows e later false = later

    found_step : (k : ℕ) (rest : Option ℕ) (rows : List X)
        → find wanted rows ≡ option_and_then row rest
        → (found : Option X) → row k ≡ found
        → find wanted (cons_option found rows) ≡ option_and_then row
        (cond (option_map_or wanted found false) (Some k) rest)
    found_step k rest rows later None e = later
    found_step k rest rows later (Some x) e = wanted_found k x rest rows e later (wanted x)

    -- the first row that is wanted is that of the first number whose row is
    pub find-filter_map : (ks : List ℕ)
        → find wanted (filter_map row ks)
        ≡ option_and_then row (find (λ k. option_map_or wanted (row k) false) ks)
    find-filter_map [] = refl
    find-filter_map (k ∷ ks) =
        found_step k (find (λ j. option_map_or wanted (row j) false) ks) (filter_map row ks)
        (find-filter_map ks) (row k) refl

  module _ (P : X → Type 0) (row : ℕ → Option X)
      (each : (k : ℕ) (x : X) → row k ≡ Some x → P x) where
    All-last : (k : ℕ) (found : Option X) → row k ≡ found → All P (cons_option found [])
    All-last k None e = All-nil P
    All-last k (Some x) e = All-cons P x [] (each k x e) (All-nil P)

    -- what is so of each row is so of all
    pub All-filter_map : (n : ℕ) → All P (filter_map row (numbers n))
    All-filter_map zero = All-nil P
    All-filter_map (suc n) =
        subst (All P) (sym (filter_map-suc row n))
        (All-append P (filter_map row (numbers n)) (cons_option (row (suc n)) []) (All-filter_map n)
        (All-last (suc n) (row (suc n)) refl))

  module _ (number : X → ℕ) (row : ℕ → Option X)
      (numbered : (k : ℕ) (x : X) → row k ≡ Some x → number x ≡ k) where
    wanted_number : (wanted : X → Bool) (k : ℕ) (x : X) (rest : List ℕ) (rows : List X)
        → number x ≡ k
        → map number (filter wanted rows) ≡ rest → (t : Bool)
        → map number (cond t (x ∷ filter wanted rows) (filter wanted rows)) ≡ cond t (k ∷ rest) rest
    wanted_number wanted k x rest rows same later true = rw (same, later)
    wanted_number wanted k x rest rows same later false = later

    number_step : (wanted : X → Bool) (k : ℕ) (rest : List ℕ) (rows : List X)
        → map number (filter wanted rows) ≡ rest
        → (found : Option X) → row k ≡ found
        → map number (filter wanted (cons_option found rows))
        ≡ cond (option_map_or wanted found false) (k ∷ rest) rest
    number_step wanted k rest rows later None e = later
    number_step wanted k rest rows later (Some x) e =
        wanted_number wanted k x rest rows (numbered k x e) later (wanted x)

    -- the numbers of the rows that are wanted
    pub map-filter_map : (wanted : X → Bool) (ks : List ℕ)
        → map number (filter wanted (filter_map row ks))
        ≡ filter (λ k. option_map_or wanted (row k) false) ks
    map-filter_map wanted [] = refl
    map-filter_map wanted (k ∷ ks) =
        number_step wanted k (filter (λ j. option_map_or wanted (row j) false) ks)
        (filter_map row ks)
        (map-filter_map wanted ks) (row k) refl

    last_below : (n : ℕ) (found : Option X) → row (suc n) ≡ found
        → All (λ x. number x < suc (suc n)) (cons_option found [])
    last_below n None e = All-nil (λ x. number x < suc (suc n))
    last_below n (Some y) e =
        let same = numbered (suc n) y e in
        All-cons (λ x. number x < suc (suc n)) y [] (omega arith)
        (All-nil (λ x. number x < suc (suc n)))

    rows-below : (n : ℕ) → All (λ x. number x < suc n) (filter_map row (numbers n))
    rows-below zero = All-nil (λ x. number x < 1)
    rows-below (suc n) =
        subst (All (λ x. number x < suc (suc n))) (sym (filter_map-suc row n))
        (All-append (λ x. number x < suc (suc n)) (filter_map row (numbers n))
        (cons_option (row (suc n)) [])
        (All-weaker (λ x. number x < suc n) (λ x. number x < suc (suc n)) (λ x below. omega arith)
        (filter_map row (numbers n)) (rows-below n))
        (last_below n (row (suc n)) refl))

    push_case : (n : ℕ) (found : Option X) → row (suc n) ≡ found
        → AllPairs (λ x y. number x < number y) (filter_map row (numbers n))
        → AllPairs (λ x y. number x < number y) (filter_map row (numbers n) ++ cons_option found [])
    push_case n None e rise =
        subst (AllPairs (λ x y. number x < number y))
        (sym (append-nil (filter_map row (numbers n)))) rise
    push_case n (Some y) e rise =
        let same = numbered (suc n) y e in
        all_pairs_push (λ x y. number x < number y) (filter_map row (numbers n)) y rise
        (λ k d within. omega (arith, rows-below n k d within))

    -- the rows stand in the order of their numbers
    pub AllPairs-filter_map : (n : ℕ)
        → AllPairs (λ x y. number x < number y) (filter_map row (numbers n))
    AllPairs-filter_map zero = λ i j d low within. absurd (omega arith)
    AllPairs-filter_map (suc n) =
        subst (AllPairs (λ x y. number x < number y)) (sym (filter_map-suc row n))
        (push_case n (row (suc n)) refl (AllPairs-filter_map n))
