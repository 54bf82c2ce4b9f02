-- The objects of places
use Rattle.std.proofs.Common.{◌≡◌, ◌⊎◌, ℕ, ◌<◌, Bool, true, false, cond, not, List, [], ◌∷◌}
use Rattle.std.proofs.Common.{Option, Some, None, Contains, refl, sym, ap, ◌∙◌, subst, inl, inr}
use Rattle.std.proofs.Common.{arith, position, length, get_or, take, drop, ◌++◌, ◌+◌, length-append}
use Rattle.std.proofs.lemmas.List.{take_more, map-append, take-append-drop}
use Rattle.ck_objects.specs.declared.items.Item.{Item}
use Rattle.ck_journal.specs.declared.views.View.{View}
use Rattle.std.proofs.lemmas.List.Elements.{All-contains, All-filter, All-contains_itself}
use Rattle.std.proofs.lemmas.List.Elements.{Contains-get_or, Contains-push_cases, filter_map-append}
use Rattle.std.proofs.lemmas.List.Elements.{filter-append}
use Rattle.std.proofs.lemmas.List.Quantifiers.{position-Some}
use Rattle.std.specs.List.{cons_option}
use Rattle.std.specs.Prelude.{◌==◌, find, map, filter, filter_map, is_some, option_map}
use Rattle.std.specs.Prelude.{option_and_then}
use Rattle.std.proofs.lemmas.Bool.{eqb-true, cases_eq, false_from_ne_true}
use Rattle.std.proofs.lemmas.Option.{same_Some, cond_some}
use Rattle.slab.proofs.SlabLemmas.{Contains-cons, Contains-cons_cases}
use Rattle.slab.specs.Slab.{Slab, get, Updates}
use Rattle.ck_journal.proofs.NumberTests.{same_number}
use Rattle.ck_store.specs.Index.{place, is_at, numbered, object_at, objects_at, is_there}
use Rattle.ck_store.specs.Index.{IsIndex, IsKeyOf, LeavesOthers, HasNone, IsListed}
use Rattle.ck_store.specs.Rows.{ObjectRow, has_number, is_match, matching_numbers, is_ended_by}
use Rattle.ck_store.specs.Rows.{concerns, matching_number}
use Rattle.ck_store.specs.declared.places.Place.{Place}
use Rattle.ck_store.specs.declared.session_lists.SessionList.{SessionList}
use Rattle.ck_store.specs.declared.endings.Ending.{Ending}
use Rattle.ck_store.proofs.Searched.{position-None_Contains, rises-once}

-- ---- one place

numbered_step : (number : ℕ) (o : Option ObjectRow) (row : ObjectRow)
    → option_and_then (numbered number) o ≡ Some row → (o ≡ Some row) × (row.number ≡ number)
numbered_step number None row is = absurd (cc)
numbered_step number (Some found) row is =
    let parts = cond_some (has_number number found) found row is in (
      ap Some parts.1,
      ap (λ (r : ObjectRow). r.number) (sym parts.1) ∙ eqb-true found.number number parts.0,
    )

module _ (objects : Slab ObjectRow) where
  -- an object that is at a place is under its key, and has its number
  pub object_at-Some : (p : Place) (row : ObjectRow) → object_at objects p ≡ Some row
      → (get objects p.key ≡ Some row) × (row.number ≡ p.number)
  object_at-Some p row is = numbered_step p.number (get objects p.key) row is

  -- an object is at the place of its number and its key
  pub object_at-here : (key : ℕ) (row : ObjectRow) → get objects key ≡ Some row
      → object_at objects (place row.number key) ≡ Some row
  object_at-here key row is =
      ap (option_and_then (numbered row.number)) is
      ∙ ap (λ t. cond t (Some row) None) (same_number row.number)

-- ---- lists of places

-- those that don't pass, one by one
abbrev pub without : (ObjectRow → Bool) → Option ObjectRow → Option ObjectRow
without test o = option_and_then (λ row. cond (test row) None (Some row)) o

module _ (at at' : Place → Option ObjectRow) where
  -- the same objects
  pub filter_map-agree : (ps : List Place)
      → ((p : Place) → Contains ps p → at' p ≡ at p) → filter_map at' ps ≡ filter_map at ps
  filter_map-agree [] same = refl
  filter_map-agree (p ∷ ps) same =
      ap (λ o. cons_option o (filter_map at' ps)) (same p (0, omega arith, refl))
      ∙ ap (cons_option (at p))
      (filter_map-agree ps (λ q there. same q (Contains-cons p q ps there)))

  without_step : (test : ObjectRow → Bool) (o : Option ObjectRow) (rows : List ObjectRow)
      → cons_option (without test o) (filter (λ row. not (test row)) rows)
      ≡ filter (λ row. not (test row)) (cons_option o rows)
  without_step test None rows = refl
  without_step test (Some row) rows = tested (test row)
    where
      tested : (t : Bool) → cons_option (cond t None (Some row)) (filter (λ r. not (test r)) rows)
          ≡ cond (not t) (row ∷ filter (λ r. not (test r)) rows) (filter (λ r. not (test r)) rows)
      tested true = refl
      tested false = refl

  pub filter_map-left : (test : ObjectRow → Bool) (ps : List Place)
      → ((p : Place) → at' p ≡ without test (at p))
      → filter_map at' ps ≡ filter (λ row. not (test row)) (filter_map at ps)
  filter_map-left test [] left = refl
  filter_map-left test (p ∷ ps) left =
      ap (λ o. cons_option o (filter_map at' ps)) (left p)
      ∙ ap (cons_option (without test (at p))) (filter_map-left test ps left)
      ∙ without_step test (at p) (filter_map at ps)

module _ {P X Y : Type 0} (at : P → Option X) (at' : P → Option Y) (change : X → Y) where
  changed_step : (o : Option X) (xs : List X)
      → cons_option (option_map change o) (map change xs) ≡ map change (cons_option o xs)
  changed_step None xs = refl
  changed_step (Some x) xs = refl

  -- each changed
  pub filter_map-mapped : (ps : List P) → ((p : P) → at' p ≡ option_map change (at p))
      → filter_map at' ps ≡ map change (filter_map at ps)
  filter_map-mapped [] changed = refl
  filter_map-mapped (p ∷ ps) changed =
      ap (λ o. cons_option o (filter_map at' ps)) (changed p)
      ∙ ap (cons_option (option_map change (at p))) (filter_map-mapped ps changed)
      ∙ changed_step (at p) (filter_map at ps)

module _ (at : Place → Option ObjectRow) where
  -- places with no object don't count
  pub filter_map-there : (ps : List Place)
      → filter_map at (filter (λ p. is_some (at p)) ps) ≡ filter_map at ps
  filter_map-there [] = refl
  filter_map-there (p ∷ ps) = there_step (filter_map-there ps) (at p) refl
    where
      there_step : filter_map at (filter (λ q. is_some (at q)) ps) ≡ filter_map at ps
          → (o : Option ObjectRow) → at p ≡ o
          → filter_map at (cond (is_some o) (p ∷ filter (λ q. is_some (at q)) ps)
          (filter (λ q. is_some (at q)) ps)) ≡ cons_option o (filter_map at ps)
      there_step rest None is = rest
      there_step rest (Some row) is =
          ap (λ o. cons_option o (filter_map at (filter (λ q. is_some (at q)) ps))) is
          ∙ ap (cons_option (Some row)) rest

  find_step : (test : ObjectRow → Bool) (o : Option ObjectRow) (rows : List ObjectRow)
      (wanted : Option ObjectRow) → find test rows ≡ wanted
      → ((row : ObjectRow) → o ≡ Some row → test row ≡ true → Some row ≡ wanted)
      → find test (cons_option o rows) ≡ wanted
  find_step test None rows wanted later here = later
  find_step test (Some row) rows wanted later here = tested (test row) refl
    where
      tested : (t : Bool) → test row ≡ t → cond t (Some row) (find test rows) ≡ wanted
      tested true e = here row refl e
      tested false e = later

  -- no object passes
  pub find-none : (test : ObjectRow → Bool) (ps : List Place)
      → ((p : Place) (row : ObjectRow) → at p ≡ Some row → test row ≡ false)
      → find test (filter_map at ps) ≡ None
  find-none test [] fails = refl
  find-none test (p ∷ ps) fails =
      find_step test (at p) (filter_map at ps) None (find-none test ps fails)
      (λ row is passes. absurd (wrong (test row) passes (fails p row is)))
    where
      wrong : (t : Bool) → t ≡ true → t ≡ false → ⊥
      wrong t yes_ no_ = cc

  -- one passes, which is at a place of the list
  pub find-one : (test : ObjectRow → Bool) (wanted : ObjectRow) (ps : List Place) (q : Place)
      → Contains ps q → at q ≡ Some wanted → test wanted ≡ true
      → ((p : Place) (row : ObjectRow) → at p ≡ Some row → test row ≡ true → row ≡ wanted)
      → find test (filter_map at ps) ≡ Some wanted
  find-one test wanted [] q there is passes only = absurd (omega (arith, there.1))
  find-one test wanted (p ∷ ps) q there is passes only =
      elim (Contains-cons_cases p q ps there) [
        | inl same ↦ first (at p) (ap at same ∙ is)
        | inr later ↦
            find_step test (at p) (filter_map at ps) (Some wanted)
            (find-one test wanted ps q later is passes only)
            (λ row here t. ap Some (only p row here t))
      ]
    where
      first : (o : Option ObjectRow) → o ≡ Some wanted
          → find test (cons_option o (filter_map at ps)) ≡ Some wanted
      first o e =
          ap (λ x. find test (cons_option x (filter_map at ps))) e
          ∙ ap (λ t. cond t (Some wanted) (find test (filter_map at ps))) passes

-- ---- the key of a number

module _ (objects : Slab ObjectRow) (index : List Place) (is_index : IsIndex objects index)
    (number : ℕ) where
  named_at : (key : ℕ) (row : ObjectRow) → get objects key ≡ Some row
      → has_number number row ≡ true → Contains index (place number key)
  named_at key row is t =
      subst (λ n. Contains index (place n key)) (eqb-true row.number number t)
      (is_index.named key row is)

  -- an object that has the number is the only one
  pub IsKeyOf-here : (k : ℕ) (found : ObjectRow) → get objects k ≡ Some found
      → found.number ≡ number → IsKeyOf objects number (Some k)
  IsKeyOf-here k found here is_number = record {
    has = λ key is. (
      found,
      ap (get objects) (sym (same_Some k key is)) ∙ here,
      ap (λ n. n == number) is_number ∙ same_number number,
    );
    only = λ key row is t.
        let same : place found.number k ≡ place number key =
        rises-once (λ (q : Place). q.number) index is_index.rises (place found.number k)
        (place number key) (is_index.named k found here) (named_at key row is t) is_number in
        ap (λ (q : Place). Some q.key) same;
  }

  pub IsKeyOf-at : (p : Place) → p.number ≡ number → true ≡ is_there objects p
      → IsKeyOf objects number (Some p.key)
  IsKeyOf-at p of_number t = by_case (object_at objects p) refl t
    where
      by_case : (o : Option ObjectRow) → object_at objects p ≡ o → true ≡ is_some o
          → IsKeyOf objects number (Some p.key)
      by_case None is e = absurd (cc)
      by_case (Some row) is e =
          let at = object_at-Some objects p row is in
          IsKeyOf-here p.key row at.0 (at.1 ∙ of_number)

  -- no place has the number
  pub IsKeyOf-no_place : None ≡ position (is_at number) index → IsKeyOf objects number None
  IsKeyOf-no_place none = record {
    has = λ key is. absurd (cc);
    only = λ key row is t.
        let out = position-None_Contains (is_at number) index (place number key) none
        (named_at key row is t) in
        let same = same_number number in
        absurd (cc);
  }

  module _ (i : ℕ) (found : Some i ≡ position (is_at number) index) where
    abbrev p : Place
    p = get_or index i (place 0 0)

    within : i < length index
    within = (position-Some (is_at number) index i (place 0 0) (sym found)).0

    there : Contains index p
    there = Contains-get_or index i (place 0 0) within

    is_number : p.number ≡ number
    is_number =
        eqb-true p.number number (position-Some (is_at number) index i (place 0 0) (sym found)).1

    here : (key : ℕ) (row : ObjectRow) → get objects key ≡ Some row
        → has_number number row ≡ true → place number key ≡ p
    here key row is t =
        rises-once (λ (q : Place). q.number) index is_index.rises (place number key) p
        (named_at key row is t) there (sym is_number)

    -- a place has it, and its object is there
    pub IsKeyOf-there : true ≡ is_there objects p → IsKeyOf objects number (Some p.key)
    IsKeyOf-there t = IsKeyOf-at p is_number t

    -- or has ended
    pub IsKeyOf-ended : false ≡ is_there objects p → IsKeyOf objects number None
    IsKeyOf-ended f = record {
      has = λ key is. absurd (cc);
      only = λ key row is t.
          let q = here key row is t in
          let n = eqb-true row.number number t in
          let at : object_at objects p ≡ Some row =
          ap (object_at objects) (sym q ∙ ap (λ m. place m key) (sym n))
          ∙ object_at-here objects key row is in
          let wrong : false ≡ true = f ∙ ap is_some at in
          absurd (cc);
    }

  -- the object under the key is the one of the number
  pub find-key : (found : Option ℕ) → IsKeyOf objects number found
      → option_and_then (get objects) found ≡ find (has_number number) (objects_at objects index)
  find-key None key = sym (find-none (object_at objects) (has_number number) index fails)
    where
      fails : (p : Place) (row : ObjectRow) → object_at objects p ≡ Some row
          → has_number number row ≡ false
      fails p row is =
          false_from_ne_true (has_number number row) (λ e.
          let wrong = key.only p.key row (object_at-Some objects p row is).0 e in cc)
  find-key (Some k) key =
      let has = key.has k refl in
      has.1 ∙ sym (find-one (object_at objects) (has_number number) has.0 index
      (place has.0.number k) (is_index.named k has.0 has.1)
      (object_at-here objects k has.0 has.1) has.2
      (λ p row is t. same_Some row has.0 (sym (object_at-Some objects p row is).0
      ∙ ap (get objects) (sym (same_Some k p.key (key.only p.key row
      (object_at-Some objects p row is).0 t))) ∙ has.1)))

-- ---- searches

module _ (view : View) (template : List Item) (objects : Slab ObjectRow) (index : List Place) where
  -- what one more object adds
  abbrev pub match_of : Option ObjectRow → List ℕ
  match_of None = []
  match_of (Some row) = cond (is_match view template row) (row.number ∷ []) []

  match_step : (o : Option ObjectRow)
      → map (λ (row : ObjectRow). row.number) (filter (is_match view template) (cons_option o []))
      ≡ match_of o
  match_step None = refl
  match_step (Some row) = tested (is_match view template row)
    where
      tested : (t : Bool) → map (λ (r : ObjectRow). r.number) (cond t (row ∷ []) [])
          ≡ cond t (row.number ∷ []) []
      tested true = refl
      tested false = refl

  -- what two lists of places have
  matching-append : (ps qs : List Place)
      → matching_numbers view template (objects_at objects (ps ++ qs))
      ≡ matching_numbers view template (objects_at objects ps)
      ++ matching_numbers view template (objects_at objects qs)
  matching-append ps qs =
      ap (matching_numbers view template) (filter_map-append (object_at objects) ps qs)
      ∙ ap (map (λ (row : ObjectRow). row.number))
      (filter-append (is_match view template) (objects_at objects ps) (objects_at objects qs))
      ∙ map-append (λ (row : ObjectRow). row.number)
      (filter (is_match view template) (objects_at objects ps))
      (filter (is_match view template) (objects_at objects qs))

  pub matching-more : (i : ℕ) (d : Place) → i < length index
      → matching_numbers view template (objects_at objects (take (i + 1) index))
      ≡ matching_numbers view template (objects_at objects (take i index))
      ++ match_of (object_at objects (get_or index i d))
  matching-more i d within =
      let p = get_or index i d in
      ap (λ ps. matching_numbers view template (objects_at objects ps)) (take_more index i d within)
      ∙ matching-append (take i index) (p ∷ [])
      ∙ ap (λ ns. matching_numbers view template (objects_at objects (take i index)) ++ ns)
      (match_step (object_at objects p))

  pub matching-step : (i : ℕ) → i < length index → (numbers : List ℕ)
      → numbers ≡ matching_numbers view template (objects_at objects (take i index))
      → (o : Option ObjectRow) → o ≡ object_at objects (get_or index i (place 0 0))
      → (more : List ℕ) → more ≡ numbers ++ match_of o
      → more ≡ matching_numbers view template (objects_at objects (take (i + 1) index))
  matching-step i within numbers before o is more added =
      added ∙ ap (λ ns. ns ++ match_of o) before
      ∙ ap (λ x. matching_numbers view template (objects_at objects (take i index)) ++ match_of x)
      is
      ∙ sym (matching-more i (place 0 0) within)

  -- a match, and no match
  pub match_of-some : (o : Option ObjectRow) (n : ℕ) → Some n ≡ matching_number view template o
      → n ∷ [] ≡ match_of o
  match_of-some None n is = absurd (cc)
  match_of-some (Some row) n is = tested (is_match view template row) is
    where
      tested : (t : Bool) → Some n ≡ cond t (Some row.number) None
          → n ∷ [] ≡ cond t (row.number ∷ []) []
      tested true e = ap (λ k. k ∷ []) (same_Some n row.number e)
      tested false e = absurd (cc)

  -- where an object of the index matches, some number is found
  pub matching-some : (i n : ℕ) → i < length index
      → Some n ≡ matching_number view template (object_at objects (get_or index i (place 0 0)))
      → matching_numbers view template (objects_at objects index) ≡ [] → ⊥
  matching-some i n within is empty =
      let first = take (i + 1) index in
      let rest = drop (i + 1) index in
      let before = matching_numbers view template (objects_at objects (take i index)) in
      let after = matching_numbers view template (objects_at objects rest) in
      let found = match_of-some (object_at objects (get_or index i (place 0 0))) n is in
      let parts : [] ≡ (before ++ n ∷ []) ++ after =
      sym empty
      ∙ ap (λ ps. matching_numbers view template (objects_at objects ps))
      (sym (take-append-drop (i + 1) index))
      ∙ matching-append first rest
      ∙ ap (λ ns. ns ++ after)
      (matching-more i (place 0 0) within ∙ ap (λ ns. before ++ ns) (sym found)) in
      let counted = ap length parts in
      omega (arith, counted, length-append (before ++ n ∷ []) after, length-append before (n ∷ []))

  pub match_of-none : (o : Option ObjectRow) → None ≡ matching_number view template o
      → [] ≡ match_of o
  match_of-none None is = refl
  match_of-none (Some row) is = tested (is_match view template row) is
    where
      tested : (t : Bool) → None ≡ cond t (Some row.number) None
          → [] ≡ cond t (row.number ∷ []) []
      tested true e = absurd (cc)
      tested false e = refl

-- ---- objects that end

module _ (test : ObjectRow → Bool) (old new : Slab ObjectRow) where
  -- an object that is there was there
  pub LeavesOthers-was : LeavesOthers test old new → (key : ℕ) (row : ObjectRow)
      → get new key ≡ Some row → get old key ≡ Some row
  LeavesOthers-was left key row is = elim (left key) [
    | inl same ↦ sym same ∙ is
    | inr ended ↦ absurd (cc (ended.0))
  ]

  pub LeavesOthers-was_at : LeavesOthers test old new → (p : Place) (row : ObjectRow)
      → object_at new p ≡ Some row → object_at old p ≡ Some row
  LeavesOthers-was_at left p row is =
      let now = object_at-Some new p row is in
      ap (λ n. object_at old (place n p.key)) (sym now.1)
      ∙ object_at-here old p.key row (LeavesOthers-was left p.key row now.0)

  -- so a place that has no object of the test has none later
  pub HasNone-later : LeavesOthers test old new → (p : Place) → HasNone test old p
      → HasNone test new p
  HasNone-later left p none row is = none row (LeavesOthers-was_at left p row is)

  -- one object ends
  pub LeavesOthers-removed : (p : Place) (row : ObjectRow) → object_at old p ≡ Some row
      → test row ≡ true → Updates old new p.key None → LeavesOthers test old new
  LeavesOthers-removed p row is passes updates key = elim (cases_eq key p.key) [
    | inl same ↦
        inr (
          ap (get new) same ∙ updates.changed,
          λ other there. ap test (same_Some other row (sym there ∙ ap (get old) same
              ∙ (object_at-Some old p row is).0)) ∙ passes,
        )
    | inr differs ↦ inl (updates.others key differs)
  ]

  LeavesOthers-then_step : (now : Slab ObjectRow) → LeavesOthers test old new
      → LeavesOthers test new now → (key : ℕ)
      → (get now key ≡ get new key)
      ⊎ ((get now key ≡ None) × ((row : ObjectRow) → get new key ≡ Some row → test row ≡ true))
      → (get new key ≡ get old key)
      ⊎ ((get new key ≡ None) × ((row : ObjectRow) → get old key ≡ Some row → test row ≡ true))
      → (get now key ≡ get old key)
      ⊎ ((get now key ≡ None) × ((row : ObjectRow) → get old key ≡ Some row → test row ≡ true))
  LeavesOthers-then_step now first then key (inl same) (inl before) = inl (same ∙ before)
  LeavesOthers-then_step now first then key (inl same) (inr before) =
      inr (same ∙ before.0, before.1)
  LeavesOthers-then_step now first then key (inr ended) (inl before) =
      inr (ended.0, λ row is. ended.1 row (before ∙ is))
  LeavesOthers-then_step now first then key (inr ended) (inr before) = inr (ended.0, before.1)

  pub LeavesOthers-then : (now : Slab ObjectRow) → LeavesOthers test old new
      → LeavesOthers test new now → LeavesOthers test old now
  LeavesOthers-then now first then key =
      LeavesOthers-then_step now first then key (then key) (first key)

  -- where all objects of the test have ended, those are left that don't pass
  pub objects_at-left : LeavesOthers test old new
      → ((key : ℕ) (row : ObjectRow) → get new key ≡ Some row → test row ≡ false)
      → (ps : List Place)
      → objects_at new ps ≡ filter (λ row. not (test row)) (objects_at old ps)
  objects_at-left left none ps =
      filter_map-left (object_at old) (object_at new) test ps
      (λ p. by_key p (get old p.key) refl (get new p.key) refl (left p.key))
    where
      ended_step : (t : Bool) (n : ℕ) (row : ObjectRow) → test row ≡ true
          → None ≡ without test (cond t (Some row) None)
      ended_step true n row e = sym (ap (λ b. cond b None (Some row)) e)
      ended_step false n row e = refl

      stays_step : (t : Bool) (n : ℕ) (row : ObjectRow) → test row ≡ false
          → cond t (Some row) None ≡ without test (cond t (Some row) None)
      stays_step true n row e = sym (ap (λ b. cond b None (Some row)) e)
      stays_step false n row e = refl

      by_key : (p : Place) (was : Option ObjectRow) → get old p.key ≡ was
          → (is : Option ObjectRow) → get new p.key ≡ is
          → (get new p.key ≡ get old p.key)
          ⊎ ((get new p.key ≡ None)
          × ((row : ObjectRow) → get old p.key ≡ Some row → test row ≡ true))
          → object_at new p ≡ without test (object_at old p)
      by_key p None e is f (inl same) =
          ap (option_and_then (numbered p.number)) (same ∙ e)
          ∙ sym (ap (λ o. without test (option_and_then (numbered p.number) o)) e)
      by_key p None e is f (inr ended) =
          ap (option_and_then (numbered p.number)) ended.0
          ∙ sym (ap (λ o. without test (option_and_then (numbered p.number) o)) e)
      by_key p (Some row) e is f (inl same) =
          ap (option_and_then (numbered p.number)) (same ∙ e)
          ∙ stays_step (has_number p.number row) p.number row (none p.key row (same ∙ e))
          ∙ sym (ap (λ o. without test (option_and_then (numbered p.number) o)) e)
      by_key p (Some row) e is f (inr ended) =
          ap (option_and_then (numbered p.number)) ended.0
          ∙ ended_step (has_number p.number row) p.number row (ended.1 row e)
          ∙ sym (ap (λ o. without test (option_and_then (numbered p.number) o)) e)

-- ---- walks

pub Contains-take_more : {X : Type 0} (xs : List X) (i : ℕ) (d x : X) → i < length xs
    → Contains (take (i + 1) xs) x → Contains (take i xs) x ⊎ (get_or xs i d ≡ x)
Contains-take_more xs i d x within there =
    Contains-push_cases (take i xs) (get_or xs i d) x
    (subst (λ ys. Contains ys x) (take_more xs i d within) there)

module _ (ending : Ending) (old new : Slab ObjectRow)
    (left : LeavesOthers (is_ended_by ending) old new) where
  pub ended-more : (places : List Place) (i : ℕ) → i < length places
      → ((p : Place) → Contains (take i places) p → HasNone (is_ended_by ending) old p)
      → HasNone (is_ended_by ending) new (get_or places i (place 0 0))
      → (p : Place) → Contains (take (i + 1) places) p → HasNone (is_ended_by ending) new p
  ended-more places i within before here p there =
      elim (Contains-take_more places i (place 0 0) p within there) [
        | inl earlier ↦ HasNone-later (is_ended_by ending) old new left p (before p earlier)
        | inr same ↦ subst (HasNone (is_ended_by ending) new) same here
      ]

  pub ended_lists-more : (lists : List SessionList) (i : ℕ) (item : SessionList) → i < length lists
      → item ≡ get_or lists i item
      → ((session : ℕ) (private : Bool) (p : Place) → IsListed (take i lists) session private p
      → concerns ending session private ≡ true → HasNone (is_ended_by ending) old p)
      → (concerns ending item.session item.private ≡ true → (p : Place)
      → Contains item.places.items p → HasNone (is_ended_by ending) new p)
      → (session : ℕ) (private : Bool) (p : Place)
      → IsListed (take (i + 1) lists) session private p
      → concerns ending session private ≡ true → HasNone (is_ended_by ending) new p
  ended_lists-more lists i item within is before here session private p listed t =
      elim (Contains-take_more lists i item listed.list within listed.among) [
        | inl earlier ↦
            HasNone-later (is_ended_by ending) old new left p
            (before session private p (record {
              list = listed.list;
              among = earlier;
              own = listed.own;
              mark = listed.mark;
              holds = listed.holds;
            }) t)
        | inr same ↦
            let this : item ≡ listed.list = is ∙ same in
            here (ap (λ (l : SessionList). concerns ending l.session l.private) this
            ∙ ap (λ s. concerns ending s listed.list.private) listed.own
            ∙ ap (concerns ending session) listed.mark ∙ t) p
            (subst (λ (l : SessionList). Contains l.places.items p) (sym this) listed.holds)
      ]

-- ---- lists that drop places

module _ {X : Type 0} (test : X → Bool) where
  pub Contains-passing : (xs : List X) (x : X) → Contains xs x → test x ≡ true
      → Contains (filter test xs) x
  Contains-passing [] x there passes = absurd (omega (arith, there.1))
  Contains-passing (y ∷ ys) x there passes =
      elim (Contains-cons_cases y x ys there) [
        | inl same ↦ first (test y) (ap test same ∙ passes) same
        | inr later ↦ rest (test y) (Contains-passing ys x later passes)
      ]
    where
      first : (t : Bool) → t ≡ true → y ≡ x
          → Contains (cond t (y ∷ filter test ys) (filter test ys)) x
      first true e same = (0, omega arith, same)
      first false e same = absurd (cc)

      rest : (t : Bool) → Contains (filter test ys) x
          → Contains (cond t (y ∷ filter test ys) (filter test ys)) x
      rest true later = Contains-cons y x (filter test ys) later
      rest false later = later

  -- what is left passes
  pub Contains-passes : (xs : List X) (x : X) → Contains (filter test xs) x → test x ≡ true
  Contains-passes [] x there = absurd (omega (arith, there.1))
  Contains-passes (y ∷ ys) x there = by_case (Contains-passes ys x) (test y) refl there
    where
      by_case : (Contains (filter test ys) x → test x ≡ true) → (t : Bool) → test y ≡ t
          → Contains (cond t (y ∷ filter test ys) (filter test ys)) x → test x ≡ true
      by_case rest true passes among = elim (Contains-cons_cases y x (filter test ys) among) [
        | inl same ↦ ap test (sym same) ∙ passes
        | inr later ↦ rest later
      ]
      by_case rest false fails among = rest among

  pub Contains-unfiltered : (xs : List X) (x : X) → Contains (filter test xs) x → Contains xs x
  Contains-unfiltered xs x there =
      All-contains (Contains xs) (filter test xs) x
      (All-filter test (Contains xs) xs (All-contains_itself xs)) there
