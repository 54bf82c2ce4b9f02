-- Conflicts of items with no fault in form, attribute by attribute
use Rattle.std.proofs.Common.{◌≡◌, ℕ, Bool, true, false, cond, List, [], ◌∷◌, Option, Some, None}
use Rattle.std.proofs.Common.{not, ◌||◌, ◌&&◌, refl, sym, ap, subst, ◌∙◌}
use Rattle.std.specs.Prelude.{◌==◌, find, unwrap_or}
use Rattle.std.specs.List.{list_any}
use Rattle.std.specs.Cmp.Lexicographic.{bytes_decides}
use Rattle.std.proofs.lemmas.Bool.{eqb-true}
use Rattle.ck_types.specs.Numbers.{same_bytes}
use Rattle.ck_objects.specs.Attributes.{type_of, attribute_of, attributes}
use Rattle.ck_types.specs.Checks.{first_error}
use Rattle.ck_objects.specs.Templates.{value_at, value_or, form_error, value_error, has_conflict}
use Rattle.ck_objects.specs.Structs.{has_two_values}
use Rattle.ck_objects.specs.declared.attributes.Attribute.{Attribute}
use Rattle.ck_objects.specs.declared.items.Item.{Item}
use Rattle.ck_types.proofs.CheckLemmas.{or_else-none}

-- ---- a test of pairs

any-false : {A : Type 0} (xs : List A) → list_any (λ _. false) xs ≡ false
any-false [] = refl
any-false (x ∷ xs) = any-false xs

or-middle : (a b c d : Bool) → ((a || b) || (c || d)) ≡ ((a || c) || (b || d))
or-middle true b c d = refl
or-middle false true true d = refl
or-middle false true false d = refl
or-middle false false c d = refl

any-or : {A : Type 0} (p q : A → Bool) (xs : List A)
    → list_any (λ x. p x || q x) xs ≡ (list_any p xs || list_any q xs)
any-or p q [] = refl
any-or p q (x ∷ xs) = rw (any-or p q xs) (or-middle (p x) (q x) (list_any p xs) (list_any q xs))

-- the order of the two lists doesn't matter
any-swap : {A B : Type 0} (q : A → B → Bool) (xs : List A) (ys : List B)
    → list_any (λ x. list_any (q x) ys) xs ≡ list_any (λ y. list_any (λ x. q x y) xs) ys
any-swap q [] ys = sym (any-false ys)
any-swap q (x ∷ xs) ys =
    rw (any-swap q xs ys) (sym (any-or (q x) (λ y. list_any (λ x. q x y) xs) ys))

-- ---- a test that says the same of each element of a kind

none-here : (test answer : Bool) → (test ≡ true → answer ≡ false) → (test && answer) ≡ false
none-here true answer h = h refl
none-here false answer h = refl

any-none : {A : Type 0} (t p : A → Bool) (xs : List A) → ((x : A) → t x ≡ true → p x ≡ false)
    → list_any (λ x. t x && p x) xs ≡ false
any-none t p [] h = refl
any-none t p (x ∷ xs) h = rw (none-here (t x) (p x) (h x)) (any-none t p xs h)

found-here : (test answer rest : Bool) → (test ≡ true → answer ≡ true)
    → (test ≡ false → rest ≡ true) → ((test && answer) || rest) ≡ true
found-here true answer rest same later = rw (same refl) refl
found-here false answer rest same later = later refl

any-found : {A : Type 0} (t p : A → Bool) (xs : List A) (y : A) → find t xs ≡ Some y
    → ((x : A) → t x ≡ true → p x ≡ true) → list_any (λ x. t x && p x) xs ≡ true
any-found t p [] y found h = cc
any-found t p (x ∷ xs) y found h =
    found-here (t x) (p x) (list_any (λ x. t x && p x) xs) (h x)
    (λ e. any-found t p xs y (subst (λ b. cond b (Some x) (find t xs) ≡ Some y) e found) h)

any-same : {A : Type 0} (t p : A → Bool) (answer : Bool) (xs : List A) (y : A) → find t xs ≡ Some y
    → ((x : A) → t x ≡ true → p x ≡ answer) → list_any (λ x. t x && p x) xs ≡ answer
any-same t p true xs y found h = any-found t p xs y found h
any-same t p false xs y found h = any-none t p xs h

-- ---- items

-- an item with no fault in form conflicts where one of the attributes finds that it does
item-conflict : (items : List Item) (item : Item) → form_error item ≡ None
    → list_any (λ a. (type_of a == item.kind)
    && not (same_bytes item.value (value_or items (type_of a) item.value))) attributes
    ≡ not (same_bytes item.value (value_or items item.kind item.value))
item-conflict items item fine = known (attribute_of item.kind) refl fine
  where
    known : (o : Option Attribute) → attribute_of item.kind ≡ o → value_error o item.value ≡ None
        → list_any (λ a. (type_of a == item.kind)
        && not (same_bytes item.value (value_or items (type_of a) item.value))) attributes
        ≡ not (same_bytes item.value (value_or items item.kind item.value))
    known None e fine = cc
    known (Some a) e fine =
        any-same (λ a. type_of a == item.kind)
        (λ a. not (same_bytes item.value (value_or items (type_of a) item.value)))
        (not (same_bytes item.value (value_or items item.kind item.value))) attributes a e
        (λ a t. ap (λ kind. not (same_bytes item.value (value_or items kind item.value)))
        (eqb-true (type_of a) item.kind t))

items-conflict : (all items : List Item) → first_error form_error items ≡ None
    → list_any (λ item. list_any
    (λ a. (type_of a == item.kind)
    && not (same_bytes item.value (value_or all (type_of a) item.value))) attributes) items
    ≡ list_any (λ (item : Item). not (same_bytes item.value (value_or all item.kind item.value)))
    items
items-conflict all [] fine = refl
items-conflict all (item ∷ items) fine =
    let parts = or_else-none (form_error item) (first_error form_error items) fine in
    rw (item-conflict all item parts.0, items-conflict all items parts.1) refl

-- items with no fault in form conflict where one of the attributes has two values
pub has_conflict-attributes : (items : List Item) → first_error form_error items ≡ None
    → list_any (has_two_values items) attributes ≡ has_conflict items
has_conflict-attributes items fine =
    any-swap (λ a item. (type_of a == item.kind)
    && not (same_bytes item.value (value_or items (type_of a) item.value))) attributes items
    ∙ items-conflict items items fine

-- ---- a type that the items don't give

same-value : (test : Bool) (value : List ℕ) → (test && not (same_bytes value value)) ≡ false
same-value false value = refl
same-value true value = rw ((bytes_decides value value).1 refl) refl

none-differs : (a : Attribute) (items : List Item)
    → list_any (λ item. (type_of a == item.kind)
    && not (same_bytes item.value (unwrap_or None item.value))) items ≡ false
none-differs a [] = refl
none-differs a (item ∷ items) =
    rw (same-value (type_of a == item.kind) item.value, none-differs a items) refl

-- it has no two values
pub not_given : (items : List Item) (a : Attribute) → value_at items (type_of a) ≡ None
    → has_two_values items a ≡ false
not_given items a e =
    subst (λ o. list_any (λ item. (type_of a == item.kind)
    && not (same_bytes item.value (unwrap_or o item.value))) items ≡ false) (sym e)
    (none-differs a items)
