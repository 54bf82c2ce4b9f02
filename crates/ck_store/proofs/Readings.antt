-- What objects that agree with a history are read as
use Rattle.std.proofs.Common.{◌≡◌, ℕ, ◌^◌, ◌<◌, ◌≤◌, Bool, true, false, cond, ◌&&◌}
use Rattle.std.proofs.Common.{List, [], Option, Some, None, refl, sym, ap, ◌∙◌, subst, eqb, arith}
use Rattle.std.specs.Prelude.{◌==◌, find, option_map, option_and_then, unwrap_or}
use Rattle.std.specs.Option.{option_map_or, option_eq}
use Rattle.std.proofs.lemmas.Bool.{eqb-true}
use Rattle.std.proofs.lemmas.List.Elements.{filter_agree}
use Rattle.std.proofs.lemmas.Option.{same_Some}
use Rattle.ck_objects.specs.declared.items.Item.{Item}
use Rattle.ck_journal.specs.declared.views.View.{View}
use Rattle.ck_journal.specs.Histories.{History}
use Rattle.ck_journal.specs.Objects.{creations, session_of, object_at, view_of, is_visible_with}
use Rattle.ck_journal.specs.Objects.{handle_with, names_with, is_some_with, object_named}
use Rattle.ck_journal.specs.Objects.{attributes_named, attributes_or_empty}
use Rattle.ck_journal.specs.Searches.{matching_objects, number_of_handle, is_match_with}
use Rattle.ck_journal.specs.Sessions.{numbers}
use Rattle.ck_journal.proofs.NameLemmas.{names_with-number}
use Rattle.ck_journal.proofs.NumberTests.{same_number}
use Rattle.ck_journal.proofs.ObjectMoves.{object_at-within}
use Rattle.ck_journal.proofs.Selections.{find-only, find-passes, find-filter_map, map-filter_map}
use Rattle.ck_store.specs.Agreement.{StoreState, StoreAgrees, row_at, handle_at}
use Rattle.ck_store.specs.Rows.{ObjectRow, object_row, has_number, visible_handle, is_match}
use Rattle.ck_store.specs.Rows.{matching_numbers}

-- ---- by an object's number

numbered_step : (k creator : ℕ) (row : ObjectRow) (object : Option (List Item))
    → option_map (object_row k creator) object ≡ Some row → row.number ≡ k
numbered_step k creator row None is = cc
numbered_step k creator row (Some attributes) is =
    sym (ap (λ (r : ObjectRow). r.number) (same_Some (object_row k creator attributes) row is))

-- the row of a number has it
row_at-number : (h : History) (k : ℕ) (row : ObjectRow) → row_at h k ≡ Some row → row.number ≡ k
row_at-number h k row is = numbered_step k (session_of h k) row (object_at h k) is

only_step : (number k creator : ℕ) (object : Option (List Item))
    → option_map_or (has_number number) (option_map (object_row k creator) object) false ≡ true
    → k ≡ number
only_step number k creator None t = cc
only_step number k creator (Some attributes) t = eqb-true k number t

match_step : (view : View) (template : List Item) (k creator : ℕ) (object : Option (List Item))
    → option_map_or (is_match view template) (option_map (object_row k creator) object) false
    ≡ is_some_with (is_match_with view template) object
match_step view template k creator None = refl
match_step view template k creator (Some attributes) = refl

attributes_step : (k creator : ℕ) (object : Option (List Item))
    → option_map (λ (row : ObjectRow). row.attributes) (option_map (object_row k creator) object)
    ≡ object
attributes_step k creator None = refl
attributes_step k creator (Some attributes) = refl

-- the attributes of the row of a number
pub row_at-attributes : (h : History) (number : ℕ)
    → option_map (λ (row : ObjectRow). row.attributes) (row_at h number) ≡ object_at h number
row_at-attributes h number = attributes_step number (session_of h number) (object_at h number)

handle_step : (view : View) (k creator : ℕ) (object : Option (List Item))
    → option_and_then (visible_handle view) (option_map (object_row k creator) object)
    ≡ cond (is_some_with (is_visible_with view) object)
    (Some (option_map_or (λ attributes. handle_with view attributes k) object 0)) None
handle_step view k creator None = refl
handle_step view k creator (Some attributes) = refl

-- its handle, where it is visible
pub row_at-handle : (h : History) (number : ℕ)
    → option_and_then (visible_handle (view_of h)) (row_at h number) ≡ handle_at h number
row_at-handle h number = handle_step (view_of h) number (session_of h number) (object_at h number)

module _ (h : History) (old : StoreState) (agree : StoreAgrees h old) where
  pub matching-agree : (template : List Item)
      → matching_numbers (view_of h) template old.rows ≡ matching_objects h template
  matching-agree template =
      ap (matching_numbers (view_of h) template) agree.rows
      ∙ map-filter_map (λ (row : ObjectRow). row.number) (row_at h) (row_at-number h)
      (is_match (view_of h) template) (numbers (creations h))
      ∙ filter_agree (λ k. option_map_or (is_match (view_of h) template) (row_at h k) false)
      (λ k. is_some_with (is_match_with (view_of h) template) (object_at h k))
      (λ k. match_step (view_of h) template k (session_of h k) (object_at h k))
      (numbers (creations h))

  -- the object of a number is found where it has been created and hasn't ended
  pub find-numbered : (number : ℕ) → find (has_number number) old.rows ≡ row_at h number
  find-numbered number =
      ap (find (has_number number)) agree.rows
      ∙ find-filter_map (has_number number) (row_at h) (numbers (creations h))
      ∙ ap (option_and_then (row_at h))
      (find-only is_number number (creations h)
      (λ k. only_step number k (session_of h k) (object_at h k))
      (within_step (object_at h number) refl))
      ∙ found_step (object_at h number) refl
    where
      is_number : ℕ → Bool
      is_number k = option_map_or (has_number number) (row_at h k) false

      within_step : (object : Option (List Item)) → object_at h number ≡ object
          → option_map_or (has_number number)
          (option_map (object_row number (session_of h number)) object) false ≡ true
          → (1 ≤ number) × (number ≤ creations h)
      within_step None is t = cc
      within_step (Some attributes) is t = object_at-within h agree.sound number attributes is

      found_step : (object : Option (List Item)) → object_at h number ≡ object
          → option_and_then (row_at h)
          (cond (option_map_or (has_number number)
          (option_map (object_row number (session_of h number)) object) false) (Some number) None)
          ≡ option_map (object_row number (session_of h number)) object
      found_step None is = refl
      found_step (Some attributes) is =
          ap (λ t. option_and_then (row_at h) (cond t (Some number) None)) (same_number number)
          ∙ ap (option_map (object_row number (session_of h number))) is

-- ---- by a handle

names_step : (visible : Bool) (own handle : ℕ)
    → option_eq eqb (cond visible (Some own) None) (Some handle) ≡ visible && own == handle
names_step true own handle = refl
names_step false own handle = refl

-- a handle names an object where it is the object's, and the object is visible
names_with-handle : (view : View) (row : ObjectRow) (handle : ℕ) (own : Option ℕ) (same : Bool)
    → own ≡ visible_handle view row → same ≡ option_eq eqb own (Some handle)
    → names_with view row.attributes handle row.number ≡ same
names_with-handle view row handle own same is e =
    sym (e ∙ ap (λ o. option_eq eqb o (Some handle)) is
    ∙ names_step (is_visible_with view row.attributes)
    (handle_with view row.attributes row.number) handle)

module _ (h : History) (old : StoreState) (agree : StoreAgrees h old) (handle : ℕ)
    (small : old.creations < 2 ^ 32) where
  abbrev names : ℕ → List Item → Bool
  names n attributes = names_with (view_of h) attributes handle n

  -- the handle names an object that has been created and hasn't ended
  named_step : (n : ℕ) (object : Option (List Item)) → object_at h n ≡ object
      → is_some_with (names n) object ≡ true
      → (attributes : List Item) × (object_at h n ≡ Some attributes) × (names n attributes ≡ true)
  named_step n None is t = cc
  named_step n (Some attributes) is t = (attributes, is, t)

  only_named : (n : ℕ) → is_some_with (names n) (object_at h n) ≡ true → n ≡ number_of_handle handle
  only_named n t =
      let there = named_step n (object_at h n) refl t in
      let within = object_at-within h agree.sound n there.0 there.1 in
      let count = agree.creations in
      names_with-number (view_of h) there.0 handle n (omega (arith, within.1)) there.2

  -- the one that has its number
  object_named-number : object_named h handle
      ≡ cond (is_some_with (names (number_of_handle handle))
      (object_at h (number_of_handle handle))) (Some (number_of_handle handle)) None
  object_named-number =
      find-only (λ n. is_some_with (names n) (object_at h n)) (number_of_handle handle)
      (creations h) only_named
      (λ t. let there = named_step (number_of_handle handle)
      (object_at h (number_of_handle handle)) refl t in
      object_at-within h agree.sound (number_of_handle handle) there.0 there.1)

  get-none_step : (object : Option (List Item)) → object_at h (number_of_handle handle) ≡ object
      → None ≡ option_map (object_row (number_of_handle handle)
      (session_of h (number_of_handle handle))) object → attributes_named h handle ≡ None
  get-none_step None is missing =
      ap (option_and_then (object_at h))
      (object_named-number ∙ ap (λ o. cond (is_some_with (names (number_of_handle handle)) o)
      (Some (number_of_handle handle)) None) is)
  get-none_step (Some attributes) is missing = cc

  -- no object has the handle's number
  pub get-none : None ≡ find (has_number (number_of_handle handle)) old.rows
      → attributes_named h handle ≡ None
  get-none missing =
      get-none_step (object_at h (number_of_handle handle)) refl
      (missing ∙ find-numbered h old agree (number_of_handle handle))

  -- one has it; whether its own handle, where it is visible, is this one
  module _ (row : ObjectRow)
      (found : Some row ≡ find (has_number (number_of_handle handle)) old.rows)
      (own : Option ℕ) (is_own : own ≡ visible_handle (view_of h) row) (same : Bool)
      (is_same : same ≡ option_eq eqb own (Some handle)) where
    here : Some row ≡ row_at h (number_of_handle handle)
    here = found ∙ find-numbered h old agree (number_of_handle handle)

    there : object_at h (number_of_handle handle) ≡ Some row.attributes
    there =
        sym (row_at-attributes h (number_of_handle handle))
        ∙ ap (option_map (λ (r : ObjectRow). r.attributes)) (sym here)

    named : object_named h handle ≡ cond same (Some (number_of_handle handle)) None
    named =
        object_named-number
        ∙ ap (λ o. cond (is_some_with (names (number_of_handle handle)) o)
        (Some (number_of_handle handle)) None) there
        ∙ ap (λ n. cond (names_with (view_of h) row.attributes handle n)
        (Some (number_of_handle handle)) None)
        (sym (row_at-number h (number_of_handle handle) row (sym here)))
        ∙ ap (λ b. cond b (Some (number_of_handle handle)) None)
        (names_with-handle (view_of h) row handle own same is_own is_same)

    -- the handle names it
    pub get-number : same ≡ true → object_named h handle ≡ Some (number_of_handle handle)
    get-number t = named ∙ ap (λ b. cond b (Some (number_of_handle handle)) None) t

    pub get-attributes : same ≡ true → attributes_named h handle ≡ Some row.attributes
    get-attributes t = ap (option_and_then (object_at h)) (get-number t) ∙ there

    -- or doesn't
    pub get-other : same ≡ false → attributes_named h handle ≡ None
    get-other t =
        ap (option_and_then (object_at h))
        (named ∙ ap (λ b. cond b (Some (number_of_handle handle)) None) t)

  -- ---- the number of the object that a handle names

  module _ (number : ℕ) (is : object_named h handle ≡ Some number) where
    passes : is_some_with (names number) (object_at h number) ≡ true
    passes =
        find-passes (λ n. is_some_with (names n) (object_at h n)) (numbers (creations h)) number is

    names_case : (k : ℕ) (attributes : List Item) (t same : Bool) → object_at h k ≡ Some attributes
        → names k attributes ≡ t → k == number ≡ same → t ≡ same
    names_case k attributes true true is_there n e = refl
    names_case k attributes false false is_there n e = refl
    names_case k attributes true false is_there n e =
        let this : is_some_with (names k) (object_at h k) ≡ true =
        ap (is_some_with (names k)) is_there ∙ n in
        let same : k ≡ number = only_named k this ∙ sym (only_named number passes) in
        sym (same_number number) ∙ ap (λ j. j == number) (sym same) ∙ e
    names_case k attributes false true is_there n e =
        let same : k ≡ number = eqb-true k number e in
        let this : is_some_with (names k) (object_at h k) ≡ true =
        subst (λ j. is_some_with (names j) (object_at h j) ≡ true) (sym same) passes in
        sym n ∙ ap (is_some_with (names k)) (sym is_there) ∙ this

    -- among the objects the handle names the one of this number, and no other
    pub names-number : (k : ℕ) (attributes : List Item) → object_at h k ≡ Some attributes
        → names k attributes ≡ (k == number)
    names-number k attributes is_there =
        names_case k attributes (names k attributes) (k == number) is_there refl refl

    pub attributes_or_empty-number : (k : ℕ) (attributes : List Item)
        → object_at h k ≡ Some attributes → k ≡ number → attributes_or_empty h handle ≡ attributes
    attributes_or_empty-number k attributes is_there same =
        ap (λ o. unwrap_or (option_and_then (object_at h) o) []) is
        ∙ ap (λ j. unwrap_or (object_at h j) []) (sym same)
        ∙ ap (λ o. unwrap_or o []) is_there

    -- its attributes are those of the row of its number
    pub named-row : (row : ObjectRow) → find (has_number number) old.rows ≡ Some row
        → attributes_or_empty h handle ≡ row.attributes
    named-row row found =
        attributes_or_empty-number number row.attributes
        (sym (row_at-attributes h number) ∙ ap (option_map (λ (r : ObjectRow). r.attributes))
        (sym (find-numbered h old agree number) ∙ found)) refl
