-- Where items have the value of a type
use Rattle.std.proofs.Common.{◌≡◌, ◌≢◌, ℕ, ◌≤◌, Bool, false, List, Some, None}
use Rattle.std.proofs.Common.{sym, ap, ◌∙◌, get_or, length, arith, set}
use Rattle.std.specs.Prelude.{◌==◌, position, option_map}
use Rattle.std.specs.List.{position_or_len, slice_get}
use Rattle.std.proofs.lemmas.Bool.{ne_eqb, eqb-true}
use Rattle.std.proofs.lemmas.Grind.{common_steps}
use Rattle.std.proofs.lemmas.List.Folds.{find_at, find_past}
use Rattle.std.proofs.lemmas.List.Quantifiers.{position-Some}
use Rattle.std.proofs.lemmas.Option.{slice_get-get_or, slice_get_past}
use Rattle.ck_objects.specs.Templates.{value_at}
use Rattle.ck_objects.specs.declared.items.Item.{Item}

module _ (items : List Item) (kind : ℕ) where
  abbrev is_of_type : Item → Bool
  is_of_type item = item.kind == kind

  pub value_at-none : position (λ (item : Item). item.kind == kind) items ≡ None
      → value_at items kind ≡ None
  value_at-none e =
      let past : length items ≤ position_or_len is_of_type items = grind (arith, common_steps) in
      ap (option_map (λ (item : Item). item.value))
      (find_at is_of_type items ∙ slice_get_past items (position_or_len is_of_type items) past)

  module _ (i : ℕ) (d : Item) (e : position (λ (item : Item). item.kind == kind) items ≡ Some i)
    where
      -- the first item of the type has its value
      pub value_at-Some : value_at items kind ≡ Some (get_or items i d).value
      value_at-Some =
          let at : position_or_len is_of_type items ≡ i = grind (arith, common_steps) in
          let inside = (position-Some is_of_type items i d e).0 in
          ap (option_map (λ (item : Item). item.value))
          (find_at is_of_type items ∙ ap (slice_get items) at ∙ slice_get-get_or items i d inside)

      -- another value there leaves those of other types
      pub value_at-set : (value : List ℕ) (other : ℕ) → other ≢ kind
          → value_at (set items i (record { kind = (get_or items i d).kind; value = value })) other
          ≡ value_at items other
      value_at-set value other unlike =
          let here : (get_or items i d).kind ≡ kind =
          eqb-true (get_or items i d).kind kind (position-Some is_of_type items i d e).1 in
          let test : ((get_or items i d).kind == other) ≡ false =
          ne_eqb (get_or items i d).kind other (λ same. unlike (sym same ∙ here)) in
          ap (option_map (λ (item : Item). item.value))
          (find_past (λ (item : Item). item.kind == other) items i
          (record { kind = (get_or items i d).kind; value = value }) d test test)
