-- The marks of labels stay those of the objects, and refuse no match
use Rattle.std.proofs.Common.{◌≡◌, ◌≢◌, ◌⊎◌, ℕ, Bool, true, false, cond, not, List, []}
use Rattle.std.proofs.Common.{◌∷◌, Option, Some, None, Contains, refl, sym, ap, ◌∙◌, subst}
use Rattle.std.proofs.Common.{inl, inr, arith, get_or, ◌&&◌, unwrap_or}
use Rattle.std.specs.Prelude.{◌==◌, find, option_map}
use Rattle.std.specs.Cmp.Lexicographic.{same_text}
use Rattle.std.specs.List.{list_all}
use Rattle.std.proofs.lemmas.Bool.{cases_eq, eqb-true, and_parts, false_from_ne_true}
use Rattle.std.proofs.lemmas.Option.{same_Some}
use Rattle.slab.specs.Slab.{Slab, get, with_value, Updates}
use Rattle.slab.proofs.SlabLemmas.{Contains-cons_cases, Updates-with_value}
use Rattle.ck_types.specs.Numbers.{same_bytes}
use Rattle.ck_objects.specs.Attributes.{type_of}
use Rattle.ck_objects.specs.Templates.{value_at, value_or}
use Rattle.ck_objects.specs.Records.{readable_value, has_item, matches}
use Rattle.ck_objects.specs.declared.attributes.Attribute.TheVariants as attribute
use Rattle.ck_objects.specs.declared.items.Item.{Item}
use Rattle.ck_journal.specs.Objects.{is_visible_with}
use Rattle.ck_journal.specs.declared.views.View.{View}
use Rattle.ck_journal.proofs.NumberTests.{same_number}
use Rattle.ck_objects.specs.Records.{with_given, with_state, state_item}
use Rattle.ck_objects.specs.declared.key_states.KeyState.{KeyState}
use Rattle.ck_store.specs.Index.{object_at, IsChanged, IsGiven, IsKeyOf}
use Rattle.ck_store.specs.Labels.{label_mark, IsMarkOf, IsWanted, IsMarked, has_other_label}
use Rattle.ck_store.specs.Rows.{ObjectRow, has_number, is_match, is_private_row, matching_number}
use Rattle.ck_store.specs.Rows.{with_attributes, with_key_state}
use Rattle.ck_store.specs.declared.places.Place.{Place}
use Rattle.ck_store.proofs.PlaceLemmas.{object_at-Some}

-- ---- an object that is refused is no match

all-has : (items template : List Item) (item : Item) → Contains template item
    → matches items template ≡ true → has_item items item ≡ true
all-has items [] item there all = absurd (omega (arith, there.1))
all-has items (first ∷ rest) item there all =
    let tests = and_parts (has_item items first) (list_all (has_item items) rest) all in
    elim (Contains-cons_cases first item rest there) [
      | inl same ↦ ap (has_item items) (sym same) ∙ tests.0
      | inr later ↦ all-has items rest item later tests.1
    ]

-- an item of an object has the object's value
has-value : (value : List ℕ) (o : Option (List ℕ))
    → unwrap_or (option_map (same_bytes value) o) false ≡ true → o ≡ Some value
has-value value None e = absurd (cc)
has-value value (Some bytes) e = ap Some (sym (same_text value bytes (sym e)))

refuses-equal : (mark : ℕ) → has_other_label mark mark ≡ false
refuses-equal mark =
    ap (λ t. not (mark == 0) && not (mark == 0) && not t) (same_number mark) ∙ out (mark == 0)
  where
    out : (t : Bool) → (not t && not t && false) ≡ false
    out true = refl
    out false = refl

refuses-none : (mark : ℕ) → has_other_label mark 0 ≡ false
refuses-none mark = out (mark == 0) (mark == 0)
  where
    out : (s t : Bool) → (not s && false && not t) ≡ false
    out true t = refl
    out false t = refl

pub refused-no_match : (view : View) (template : List Item) (row : ObjectRow) (mark wanted : ℕ)
    → IsMarkOf row.attributes mark → IsWanted template wanted → has_other_label mark wanted ≡ true
    → is_match view template row ≡ false
refused-no_match view template row mark wanted marked is_wanted refused =
    false_from_ne_true (is_match view template row) (λ e.
    matching (and_parts (is_visible_with view row.attributes) (matches row.attributes template)
    e).1)
  where
    matching : matches row.attributes template ≡ true → ⊥
    matching all = elim is_wanted [
      | inl zero_ ↦
          let out = sym refused ∙ ap (has_other_label mark) zero_ ∙ refuses-none mark in
          absurd (cc)
      | inr asked ↦
          let has = all-has row.attributes template asked.0 asked.1 all in
          let value =
          has-value asked.0.value (readable_value row.attributes (type_of attribute.Label))
          (ap (λ kind. unwrap_or (option_map (same_bytes asked.0.value)
          (readable_value row.attributes kind)) false) (sym asked.2) ∙ has) in
          elim (marked asked.0.value value) [
            | inl zero_ ↦
                let out : true ≡ false = sym refused ∙ ap (λ m. has_other_label m wanted) zero_ in
                absurd (cc)
            | inr same ↦
                let out = sym refused ∙ ap (λ m. has_other_label m wanted) (same ∙ sym asked.3)
                ∙ refuses-equal wanted in
                absurd (cc)
          ]
    ]

pub refused-none : (objects : Slab ObjectRow) (marks : List ℕ) (p : Place) (view : View)
    (template : List Item) (wanted : ℕ) → IsMarked objects marks → IsWanted template wanted
    → has_other_label (get_or marks p.key 0) wanted ≡ true
    → None ≡ matching_number view template (object_at objects p)
refused-none objects marks p view template wanted marked is_wanted refused =
    by_case (object_at objects p) refl
  where
    by_case : (o : Option ObjectRow) → object_at objects p ≡ o
        → None ≡ matching_number view template o
    by_case None is = refl
    by_case (Some row) is =
        ap (λ t. cond t (Some row.number) None)
        (sym (refused-no_match view template row (get_or marks p.key 0) wanted
        (marked p.key row (object_at-Some objects p row is).0) is_wanted refused))

-- ---- how the marks stay

module _ (objects : Slab ObjectRow) (marks marks' : List ℕ) where
  pub IsMarked-grown : IsMarked objects marks
      → ((key : ℕ) → (get_or marks' key 0 ≡ get_or marks key 0) ⊎ (get_or marks' key 0 ≡ 0))
      → IsMarked objects marks'
  IsMarked-grown marked grown key row is label has = elim (grown key) [
    | inl same ↦ subst (λ m. (m ≡ 0) ⊎ (m ≡ label_mark label)) (sym same)
        (marked key row is label has)
    | inr zero_ ↦ inl zero_
  ]

-- one object is new or has other attributes
module _ (old new : Slab ObjectRow) (marks marks' : List ℕ) (key mark : ℕ)
    (set_here : (get_or marks' key 0 ≡ mark) ⊎ (get_or marks' key 0 ≡ 0))
    (others : (other : ℕ) → other ≢ key → get_or marks' other 0 ≡ get_or marks other 0)
    (here : (row : ObjectRow) → get new key ≡ Some row → IsMarkOf row.attributes mark)
    (there : (other : ℕ) (row : ObjectRow) → other ≢ key → get new other ≡ Some row
    → get old other ≡ Some row) where
  pub IsMarked-updated : IsMarked old marks → IsMarked new marks'
  IsMarked-updated marked k row is label has = elim (cases_eq k key) [
    | inl same ↦ elim set_here [
      | inl set_ ↦
          subst (λ m. (m ≡ 0) ⊎ (m ≡ label_mark label))
          (sym (ap (λ x. get_or marks' x 0) same ∙ set_))
          (here row (sym (ap (get new) same) ∙ is) label has)
      | inr zero_ ↦ inl (ap (λ x. get_or marks' x 0) same ∙ zero_)
    ]
    | inr other ↦
        subst (λ m. (m ≡ 0) ⊎ (m ≡ label_mark label)) (sym (others k other))
        (marked k row (there k row other is) label has)
  ]

-- fewer objects
pub IsMarked-fewer : (old new : Slab ObjectRow) (marks : List ℕ) → IsMarked old marks
    → ((key : ℕ) (row : ObjectRow) → get new key ≡ Some row → get old key ≡ Some row)
    → IsMarked new marks
IsMarked-fewer old new marks marked was key row is = marked key row (was key row is)

-- ---- an object of a number is changed

-- no object has the number
pub IsChanged-none : (objects : Slab ObjectRow) (number : ℕ) (change : ObjectRow → ObjectRow)
    → ((row : ObjectRow) → has_number number row ≡ false → change row ≡ row)
    → IsKeyOf objects number None → IsChanged change objects objects
IsChanged-none objects number change same is_key key = by_case (get objects key) refl
  where
    other : (row : ObjectRow) → get objects key ≡ Some row → has_number number row ≡ false
    other row is =
        false_from_ne_true (has_number number row) (λ e. let wrong = is_key.only key row is e in cc)

    by_case : (o : Option ObjectRow) → get objects key ≡ o
        → get objects key ≡ option_map change (get objects key)
    by_case None is = is ∙ sym (ap (option_map change) is)
    by_case (Some row) is =
        is ∙ ap Some (sym (same row (other row is)))
        ∙ sym (ap (option_map change) is)

pub with_attributes-other : (number : ℕ) (attributes : List Item) (row : ObjectRow)
    → has_number number row ≡ false → with_attributes number attributes row ≡ row
with_attributes-other number attributes row f =
    ap (λ t. cond t (record row { attributes = attributes }) row) f

pub with_key_state-other : (number : ℕ) (state : KeyState) (row : ObjectRow)
    → has_number number row ≡ false → with_key_state number state row ≡ row
with_key_state-other number state row f =
    ap (λ t. cond t (record row { attributes = with_state state row.attributes }) row) f

-- ---- how the marks stay at a change

module _ (change : ObjectRow → ObjectRow) (old new : Slab ObjectRow)
    (changed : IsChanged change old new) (key : ℕ) (row : ObjectRow) (is : get new key ≡ Some row)
  where
    -- an object that is there was there before the change
    changed-from : (before : ObjectRow) × (get old key ≡ Some before) × (change before ≡ row)
    changed-from = by_case (get old key) refl (sym (changed key) ∙ is)
      where
        by_case : (o : Option ObjectRow) → get old key ≡ o → option_map change o ≡ Some row
            → (before : ObjectRow) × (get old key ≡ Some before) × (change before ≡ row)
        by_case None e m = absurd (cc)
        by_case (Some before) e m = (before, e, same_Some (change before) row m)

-- a key in another state has its label
label-in_state : (state : KeyState) (attributes : List Item)
    → value_at (with_state state attributes) (type_of attribute.Label)
    ≡ value_at attributes (type_of attribute.Label)
label-in_state state [] = refl
label-in_state state (item ∷ items) =
    first (item.kind == type_of attribute.Label) refl (label-in_state state items)
  where
    first : (t : Bool) → item.kind == type_of attribute.Label ≡ t
        → value_at (with_state state items) (type_of attribute.Label)
        ≡ value_at items (type_of attribute.Label)
        → option_map (λ (i : Item). i.value)
        (cond t (Some (record item {
          value = value_or (state_item state ∷ []) item.kind item.value;
        }))
        (find (λ (i : Item). i.kind == type_of attribute.Label) (with_state state items)))
        ≡ option_map (λ (i : Item). i.value)
        (cond t (Some item) (find (λ (i : Item). i.kind == type_of attribute.Label) items))
    first true is rest =
        ap (λ kind. Some (value_or (state_item state ∷ []) kind item.value))
        (eqb-true item.kind (type_of attribute.Label) is)
    first false is rest = rest

pub IsMarked-in_state : (number : ℕ) (state : KeyState) (old new : Slab ObjectRow) (marks : List ℕ)
    → IsChanged (with_key_state number state) old new → IsMarked old marks → IsMarked new marks
IsMarked-in_state number state old new marks changed marked key row is label has =
    let from = changed-from (with_key_state number state) old new changed key row is in
    marked key from.0 from.1 label
    (by_case (has_number number from.0) from.0
    ∙ ap (λ (r : ObjectRow). readable_value r.attributes (type_of attribute.Label)) from.2 ∙ has)
  where
    by_case : (t : Bool) (before : ObjectRow)
        → readable_value before.attributes (type_of attribute.Label)
        ≡ readable_value (cond t (record before { attributes = with_state state before.attributes })
        before).attributes (type_of attribute.Label)
    by_case true before = sym (label-in_state state before.attributes)
    by_case false before = refl

-- the object of the number gets other attributes, and their mark
module _ (number : ℕ) (attributes : List Item) (old new : Slab ObjectRow)
    (changed : IsChanged (with_attributes number attributes) old new)
    (key mark : ℕ) (is_key : IsKeyOf old number (Some key)) where
  pub IsMarked-changed : (marks marks' : List ℕ)
      → (get_or marks' key 0 ≡ mark) ⊎ (get_or marks' key 0 ≡ 0)
      → ((other : ℕ) → other ≢ key → get_or marks' other 0 ≡ get_or marks other 0)
      → ((row : ObjectRow) → get new key ≡ Some row → IsMarkOf row.attributes mark)
      → IsMarked old marks → IsMarked new marks'
  IsMarked-changed marks marks' set_here others here marked =
      IsMarked-updated old new marks marks' key mark set_here others here there marked
    where
      there : (other : ℕ) (row : ObjectRow) → other ≢ key → get new other ≡ Some row
          → get old other ≡ Some row
      there other row differs is =
          let from = changed-from (with_attributes number attributes) old new changed other row
          is in
          from.1
          ∙ ap Some (sym (with_attributes-other number attributes from.0
          (false_from_ne_true (has_number number from.0) (λ t.
          differs (sym (same_Some key other (is_key.only other from.0 from.1 t)))))) ∙ from.2)

-- ---- the object under a key is given values

module _ (number : ℕ) (values : List Item) (objects : Slab ObjectRow) (key : ℕ)
    (old new : ObjectRow) (is_old : get objects key ≡ Some old)
    (others : new ≡ record old { attributes = new.attributes })
    (is_key : IsKeyOf objects number (Some key)) where
  has_its_number : (row : ObjectRow) → get objects key ≡ Some row → has_number number row ≡ true
  has_its_number row is =
      let has = is_key.has key refl in
      subst (λ r. has_number number r ≡ true) (same_Some has.0 row (sym has.1 ∙ is)) has.2

  is_it : (k : ℕ) (row : ObjectRow) → get objects k ≡ Some row → has_number number row ≡ true
      → old ≡ row
  is_it k row is numbered =
      same_Some old row
      (sym is_old ∙ ap (get objects) (same_Some key k (is_key.only k row is numbered)) ∙ is)

  changed_under : IsChanged (with_attributes number new.attributes) objects
      (with_value objects key new)
  changed_under k = elim (cases_eq k key) [
    | inl same ↦
        ap (get (with_value objects key new)) same ∙ updates.changed
        ∙ ap Some (others ∙ ap (λ t. cond t (record old { attributes = new.attributes }) old)
        (sym (has_its_number old is_old)))
        ∙ sym (ap (option_map (with_attributes number new.attributes))
        (ap (get objects) same ∙ is_old))
    | inr other ↦
        updates.others k other ∙ unchanged (get objects k) refl other
  ]
    where
      updates : Updates objects (with_value objects key new) key (Some new)
      updates = Updates-with_value objects key new (rw is_old refl)

      unchanged : (o : Option ObjectRow) → get objects k ≡ o → k ≢ key
          → get objects k ≡ option_map (with_attributes number new.attributes) (get objects k)
      unchanged None e other = e ∙ sym (ap (option_map (with_attributes number new.attributes)) e)
      unchanged (Some row) e other =
          e ∙ ap Some (sym (with_attributes-other number new.attributes row
          (false_from_ne_true (has_number number row) (λ t.
          other (sym (same_Some key k (is_key.only k row e t)))))))
          ∙ sym (ap (option_map (with_attributes number new.attributes)) e)

  pub IsGiven-under : new.attributes ≡ with_given values old.attributes
      → is_private_row new ≡ is_private_row old
      → IsGiven number values objects (with_value objects key new)
  IsGiven-under given private = record {
    attributes = new.attributes;
    changed = changed_under;
    given = λ k row is numbered.
        subst (λ (r : ObjectRow). new.attributes ≡ with_given values r.attributes)
        (is_it k row is numbered) given;
    private = λ k row is numbered. private ∙ ap is_private_row (is_it k row is numbered);
  }
