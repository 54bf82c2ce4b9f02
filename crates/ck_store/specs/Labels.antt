-- Marks of labels, by which a search passes over objects. They mirror the code; no reply depends on
-- them.
use Rattle.std.specs.Prelude.{◌≡◌, ◌⊎◌, ℕ, ◌+◌, ◌*◌, ◌%◌, ◌^◌, Bool, ◌==◌, ◌&&◌, not, List, Some}
use Rattle.std.specs.Prelude.{Contains, get_or}
use Rattle.std.specs.List.{fold}
use Rattle.slab.specs.Slab.{Slab, get}
use Rattle.ck_objects.specs.Attributes.{type_of}
use Rattle.ck_objects.specs.Records.{readable_value}
use Rattle.ck_objects.specs.declared.attributes.Attribute.TheVariants as attribute
use Rattle.ck_objects.specs.declared.items.Item.{Item}
use Rattle.ck_store.specs.Rows.{ObjectRow}

abbrev pub label_mark : List ℕ → ℕ
label_mark label =
    fold (λ mark byte. ((mark * 0x01000193) % 2 ^ 32 + byte) % 2 ^ 32) 0x811c9dc5 label

-- it is the mark of the label of an object with these attributes, or 0
abbrev pub IsMarkOf : List Item → ℕ → Type 0
IsMarkOf attributes mark = (label : List ℕ)
    → readable_value attributes (type_of attribute.Label) ≡ Some label
    → (mark ≡ 0) ⊎ (mark ≡ label_mark label)

-- it is the mark of a label that the template asks for, or 0
abbrev pub IsWanted : List Item → ℕ → Type 0
IsWanted template mark = (mark ≡ 0)
    ⊎ ((item : Item) × Contains template item × (item.kind ≡ type_of attribute.Label)
    × (mark ≡ label_mark item.value))

-- both marks are known and differ, so the label that is wanted is another one
abbrev pub has_other_label : ℕ → ℕ → Bool
has_other_label mark wanted = not (mark == 0) && not (wanted == 0) && not (mark == wanted)

-- the marks are those of the objects' labels, or 0
abbrev pub IsMarked : Slab ObjectRow → List ℕ → Type 0
IsMarked objects marks = (key : ℕ) (row : ObjectRow) → get objects key ≡ Some row
    → IsMarkOf row.attributes (get_or marks key 0)
