-- The template that three flat lists of C give: types, lengths of values, and the values one after
-- the other
use Rattle.std.specs.Prelude.{ℕ, List, [], ◌∷◌, drop, take}
use Rattle.ck_objects.specs.declared.items.Item.{Item}
use Rattle.ck_objects.specs.declared.templates.Template.{Template}
use Rattle.ck_foreign.specs.declared.templates.TypeAndLength.{TypeAndLength}

-- each attribute takes as many bytes as its length says from the beginning of what is left
abbrev pub items_of : List TypeAndLength → List ℕ → List Item
items_of [] values = []
items_of (a ∷ attributes) values =
    record { kind = a.kind; value = take a.length values }
    ∷ items_of attributes (drop a.length values)

abbrev pub template_of : List TypeAndLength → List ℕ → Template
template_of attributes values = record { items = items_of attributes values }
