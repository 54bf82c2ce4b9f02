-- A handle names at most one object
use Rattle.std.proofs.Common.{◌≡◌, ℕ, ◌+◌, ◌*◌, ◌%◌, ◌^◌, ◌<◌, Bool, true, false, cond}
use Rattle.std.proofs.Common.{List, Option, Some, None, refl, sym, ap, ◌∙◌, subst, arith}
use Rattle.std.specs.Prelude.{◌==◌, option_and_then}
use Rattle.std.proofs.lemmas.Bool.{eqb-true, and_parts}
use Rattle.std.proofs.lemmas.Nat.{mod-mul-add}
use Rattle.std.proofs.lemmas.Option.{same_Some}
use Rattle.ck_objects.specs.Records.{is_set}
use Rattle.ck_types.specs.TokenLimits.{Ranges, AreInRange}
use Rattle.ck_objects.specs.declared.attributes.Attribute.TheVariants as attribute
use Rattle.ck_objects.specs.declared.items.Item.{Item}
use Rattle.ck_journal.specs.declared.views.View.{View}
use Rattle.ck_journal.specs.Answers.{IsLegal}
use Rattle.ck_journal.specs.Bases.{IsSound}
use Rattle.ck_journal.specs.Histories.{History, start_of}
use Rattle.ck_journal.specs.Objects.{creations, object_at, view_of, is_visible_with, handle_with}
use Rattle.ck_journal.specs.Objects.{names_with, is_some_with, object_named, attributes_named}
use Rattle.ck_journal.specs.Searches.{number_of_handle}
use Rattle.ck_journal.specs.Sessions.{numbers}
use Rattle.ck_journal.proofs.LegalLemmas.{creations-bound}
use Rattle.ck_journal.proofs.ObjectMoves.{object_at-within}
use Rattle.ck_journal.proofs.Selections.{find-only, find-passes}

-- the object of a handle has the handle's number
number_case : (private : Bool) (logins n handle : ℕ) → n < 2 ^ 32
    → cond private (n + 2 ^ 32 * logins) n ≡ handle → n ≡ number_of_handle handle
number_case true logins n handle small e =
    let form : handle ≡ logins * 2 ^ 32 + n = omega arith in
    sym (ap (λ x. x % 2 ^ 32) form ∙ mod-mul-add logins (2 ^ 32) n small)
number_case false logins n handle small e =
    let form : handle ≡ 0 * 2 ^ 32 + n = omega arith in
    sym (ap (λ x. x % 2 ^ 32) form ∙ mod-mul-add 0 (2 ^ 32) n small)

pub handle-number : (view : View) (attributes : List Item) (handle n : ℕ) → n < 2 ^ 32
    → handle_with view attributes n ≡ handle → n ≡ number_of_handle handle
handle-number view attributes handle n small e =
    number_case (is_set attributes attribute.Private) view.logins n handle small e

pub names_with-number : (view : View) (attributes : List Item) (handle n : ℕ) → n < 2 ^ 32
    → names_with view attributes handle n ≡ true → n ≡ number_of_handle handle
names_with-number view attributes handle n small named =
    handle-number view attributes handle n small
    (eqb-true (handle_with view attributes n) handle
    (and_parts (is_visible_with view attributes) (handle_with view attributes n == handle) named).1)

pub some_passes : (test : List Item → Bool) (object : Option (List Item))
    → is_some_with test object ≡ true
    → (attributes : List Item) × (object ≡ Some attributes) × (test attributes ≡ true)
some_passes test None t = cc
some_passes test (Some attributes) t = (attributes, refl, t)

pub found-object : (object : ℕ → Option (List Item)) (found : Option ℕ) (attributes : List Item)
    → option_and_then object found ≡ Some attributes
    → (n : ℕ) × (found ≡ Some n) × (object n ≡ Some attributes)
found-object object None attributes e = cc
found-object object (Some n) attributes e = (n, refl, e)

-- what a handle names is an object that has been created and hasn't ended
pub named-passes : (h : History) (handle n : ℕ) → object_named h handle ≡ Some n
    → (attributes : List Item) × (object_at h n ≡ Some attributes)
    × (names_with (view_of h) attributes handle n ≡ true)
named-passes h handle n e =
    some_passes (λ items. names_with (view_of h) items handle n) (object_at h n)
    (find-passes (λ k. is_some_with (λ items. names_with (view_of h) items handle k)
    (object_at h k))
    (numbers (creations h)) n e)

-- the same, by its attributes
pub named-object : (h : History) (handle : ℕ) (attributes : List Item)
    → attributes_named h handle ≡ Some attributes
    → (n : ℕ) × (object_named h handle ≡ Some n) × (object_at h n ≡ Some attributes)
    × (names_with (view_of h) attributes handle n ≡ true)
named-object h handle attributes e =
    let found = found-object (object_at h) (object_named h handle) attributes e in
    let passes = named-passes h handle found.0 found.1 in
    let same : passes.0 ≡ attributes = same_Some passes.0 attributes (sym passes.1 ∙ found.2) in (
      found.0,
      found.1,
      found.2,
      subst (λ items. names_with (view_of h) items handle found.0 ≡ true) same passes.2,
    )

module _ (limits : Ranges)
    (in_range : AreInRange limits.sessions limits.openings limits.creations limits.logins)
    (h : History) (sound : IsSound (start_of h)) (legal : IsLegal limits h) where
  -- the object that a handle names has the handle's number
  pub named-number : (handle n : ℕ) (attributes : List Item) → object_at h n ≡ Some attributes
      → names_with (view_of h) attributes handle n ≡ true → n ≡ number_of_handle handle
  named-number handle n attributes there named =
      let within = object_at-within h sound n attributes there in
      let below = creations-bound limits in_range h sound legal in
      names_with-number (view_of h) attributes handle n (omega arith) named

  -- what a call finds by a handle is the object that the handle names
  pub found-named : (handle n : ℕ) (attributes found : List Item)
      → object_at h n ≡ Some attributes → names_with (view_of h) attributes handle n ≡ true
      → attributes_named h handle ≡ Some found → found ≡ attributes
  found-named handle n attributes found there named e =
      let other = named-object h handle found e in
      let number = named-number handle n attributes there named in
      let same = named-number handle other.0 found other.2 other.3 in
      same_Some found attributes (sym other.2 ∙ ap (object_at h) (same ∙ sym number) ∙ there)

  -- and that is the object with the handle, where it is there and visible
  pub found-number : (handle n : ℕ) (attributes : List Item) → object_at h n ≡ Some attributes
      → names_with (view_of h) attributes handle n ≡ true → object_named h handle ≡ Some n
  found-number handle n attributes there named =
      let names = λ (k : ℕ). is_some_with (λ items. names_with (view_of h) items handle k)
      (object_at h k) in
      let passes : names n ≡ true =
      ap (is_some_with (λ items. names_with (view_of h) items handle n)) there ∙ named in
      let only = λ (j : ℕ) (t : names j ≡ true).
      let other = some_passes (λ items. names_with (view_of h) items handle j) (object_at h j) t in
      named-number handle j other.0 other.1 other.2
      ∙ sym (named-number handle n attributes there named) in
      find-only names n (creations h) only (λ t. object_at-within h sound n attributes there)
      ∙ ap (λ b. cond b (Some n) None) passes
