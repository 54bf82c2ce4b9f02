-- The attributes of an object as items, by ascending type
use Rattle.std.specs.Prelude.{ℕ, Bool, true, false, List, [], ◌∷◌, Option, Some, None}
use Rattle.std.specs.Prelude.{not, ◌&&◌, ◌||◌, ◌==◌, if◌then◌else◌, map, find, length}
use Rattle.std.specs.Prelude.{option_map, option_and_then, unwrap_or}
use Rattle.std.specs.Option.{option_map_or}
use Rattle.ck_types.specs.Numbers.{number_bytes, same_bytes}
use Rattle.ck_objects.specs.Attributes.{flag_bytes}
use Rattle.ck_objects.specs.Attributes.{Default, preset, computed, Column, type_of, column_of}
use Rattle.ck_objects.specs.Attributes.{attributes}
use Rattle.std.specs.List.{flat_map, list_all}
use Rattle.ck_types.specs.Checks.{error_if, first_of}
use Rattle.ck_objects.specs.KeyStates.{state_number, key_states, is_destroyed}
use Rattle.ck_objects.specs.Templates.{value_at, value_or, flag_at, class_of, template_error}
use Rattle.ck_objects.specs.declared.attributes.Attribute.{Attribute}
use Rattle.ck_objects.specs.declared.attributes.Attribute.TheVariants as attribute
use Rattle.ck_objects.specs.declared.attributes.Class.{Class}
use Rattle.ck_objects.specs.declared.attributes.Class.TheVariants as class
use Rattle.ck_types.specs.declared.errors.RvError.{RvError}
use Rattle.ck_types.specs.declared.errors.RvError.TheVariants as rv_error
use Rattle.ck_objects.specs.declared.key_states.KeyState.{KeyState}
use Rattle.ck_objects.specs.declared.object_flags.Placement.{Placement}
use Rattle.ck_objects.specs.declared.object_flags.Protections.{Protections}
use Rattle.ck_objects.specs.declared.attributes.Purpose.TheVariants as purpose
use Rattle.ck_objects.specs.declared.items.Item.{Item}

abbrev pub item_of : Attribute → List ℕ → Item
item_of a value = record { kind = type_of a; value = value }

-- ---- what a template makes

-- the items, with the template's values of the types that it gives
abbrev pub with_given : List Item → List Item → List Item
with_given template items =
    map (λ (item : Item). record item { value = value_or template item.kind item.value }) items

-- the value that the token computes for a new object: a generated key's is the random bytes, and a
-- created key's length is that of its value; a generated key was always sensitive where it is
-- sensitive, and never extractable where it isn't extractable
abbrev pub computed_value : Attribute → List Item → List ℕ → List ℕ
computed_value attribute.Value template random = random
computed_value attribute.ValueLen template random =
    number_bytes (length (value_or template (type_of attribute.Value) []))
computed_value attribute.NeverExtractable template random =
    flag_bytes (not (unwrap_or (flag_at template attribute.Extractable) true))
computed_value attribute.AlwaysSensitive template random =
    flag_bytes (unwrap_or (flag_at template attribute.Sensitive) false)
computed_value other template random = []

-- the value of a new object's attribute: the template's, else the table's; a template that passes
-- the checks gives each required one
abbrev pub new_value : Attribute → Default → List Item → List ℕ → List ℕ
new_value a (preset value) template random = value_or template (type_of a) value
new_value a computed template random = computed_value a template random
new_value a other template random = value_or template (type_of a) []

abbrev pub new_item : Attribute → Option Default → List Item → List ℕ → List Item
new_item a None template random = []
new_item a (Some default) template random = item_of a (new_value a default template random) ∷ []

-- the attributes of the object that a template creates
unfoldable pub created_items : List Item → List Item
created_items template =
    flat_map (λ a. new_item a
    (option_map (λ (entry : Column). entry.created) (column_of (class_of template) a)) template [])
    attributes

-- the attributes of the key that is generated with a template from these random bytes
unfoldable pub generated_items : List Item → List ℕ → List Item
generated_items template random =
    flat_map (λ a. new_item a
    (option_map (λ (entry : Column). entry.generated) (column_of class.SecretKey a)) template
    random) attributes

-- ---- reading an attribute

-- the items have the flag, and it is true
abbrev pub is_set : List Item → Attribute → Bool
is_set items a = unwrap_or (flag_at items a) false

-- the items have the flag, and it is false
abbrev pub is_cleared : List Item → Attribute → Bool
is_cleared items a = not (unwrap_or (flag_at items a) true)

-- the state of a key with these attributes; None for a data object
abbrev pub state_in : List Item → Option KeyState
state_in items =
    option_and_then
    (λ value. find (λ s. same_bytes (number_bytes (state_number s)) value) key_states)
    (value_at items (type_of attribute.KeyState))

-- a state as an attribute
abbrev pub state_item : KeyState → Item
state_item s = item_of attribute.KeyState (number_bytes (state_number s))

-- the attributes of a key in another state
abbrev pub with_state : KeyState → List Item → List Item
with_state s items = with_given (state_item s ∷ []) items

-- the value of a key with these attributes
abbrev pub key_value : List Item → List ℕ
key_value items = value_or items (type_of attribute.Value) []

abbrev pub is_key_class : Class → Bool
is_key_class class.SecretKey = true
is_key_class class.Data = false

abbrev pub is_key : List Item → Bool
is_key items = is_key_class (class_of items)

-- ---- what may be read

-- the value may be revealed: that of a data object always, that of a key where the key isn't
-- sensitive, is extractable and hasn't been destroyed
abbrev pub is_revealable : List Item → Bool
is_revealable items =
    not (is_key items)
    || (not (is_set items attribute.Sensitive) && is_set items attribute.Extractable
    && not (option_map_or is_destroyed (state_in items) false))

-- the attribute is a value that may not be revealed
abbrev pub is_hidden : List Item → ℕ → Bool
is_hidden items kind = kind == type_of attribute.Value && not (is_revealable items)

-- the value of an attribute type, where the object has it and it isn't hidden
abbrev pub readable_value : List Item → ℕ → Option (List ℕ)
readable_value items kind = if is_hidden items kind then None else value_at items kind

-- ---- what the checks of a template look at

-- the attributes that a template may not weaken
abbrev pub protections_of : List Item → Protections
protections_of items = record {
  private = is_set items attribute.Private;
  sensitive = is_set items attribute.Sensitive;
  extractable = is_set items attribute.Extractable;
}

-- whether an object with these attributes is a token object, and whether it is private
abbrev pub placement_of : List Item → Placement
placement_of items =
    record { token = is_set items attribute.Token; private = is_set items attribute.Private }

-- ---- templates that make objects

-- the template makes a sensitive key not sensitive, or a key extractable that isn't
abbrev pub exposes_key : Protections → List Item → Bool
exposes_key protections template =
    (protections.sensitive && is_cleared template attribute.Sensitive)
    || (not protections.extractable && is_set template attribute.Extractable)

-- the template makes a private object public
abbrev pub makes_public : Protections → List Item → Bool
makes_public protections template =
    protections.private && is_cleared template attribute.Private

-- the error of a template that an object of this class with these protections is copied with
abbrev pub copied_error : Class → Protections → List Item → Option RvError
copied_error class protections template = first_of (
    template_error class purpose.Copy template
    ∷ error_if (exposes_key protections template) rv_error.AttributeReadOnly
    ∷ error_if (makes_public protections template) rv_error.TemplateInconsistent
    ∷ [])

-- the error of a template that an object of this class with these protections is changed by
abbrev pub changed_error : Class → Protections → List Item → Option RvError
changed_error class protections template = first_of (
    template_error class purpose.Set template
    ∷ error_if (exposes_key protections template) rv_error.AttributeReadOnly
    ∷ [])

-- ---- search templates

-- the items have this item's attribute with equal bytes, and it isn't hidden
abbrev pub has_item : List Item → Item → Bool
has_item items item =
    unwrap_or (option_map (same_bytes item.value) (readable_value items item.kind)) false

-- an object with these attributes matches a search template: it has each attribute of the template
-- with equal bytes, none of them hidden. The template isn't checked, so a type that the object
-- doesn't have, or two different values of one type, match nothing.
abbrev pub matches : List Item → List Item → Bool
matches items template = list_all (has_item items) template
