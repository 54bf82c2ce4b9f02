-- Templates and the checks that one must pass
use Rattle.std.specs.Prelude.{ℕ, Bool, true, false, List, [], ◌∷◌, Option, Some, None}
use Rattle.std.specs.Prelude.{◌==◌, ◌&&◌, not, find, option_map, option_and_then, unwrap_or}
use Rattle.std.specs.Prelude.{is_none, nat_le, length, if◌then◌else◌}
use Rattle.std.specs.Int.{w64, from_le_bytes}
use Rattle.std.specs.List.{list_any}
use Rattle.ck_types.specs.Numbers.{number_bytes, same_bytes}
use Rattle.ck_objects.specs.Attributes.{flag_bytes, is_of_form}
use Rattle.ck_objects.specs.Attributes.{type_of, form_of, permission, attribute_of}
use Rattle.ck_types.specs.Checks.{error_if, first_of, first_error}
use Rattle.ck_objects.specs.declared.attributes.Attribute.{Attribute}
use Rattle.ck_objects.specs.declared.attributes.Attribute.TheVariants as attribute
use Rattle.ck_objects.specs.declared.attributes.Class.{Class}
use Rattle.ck_objects.specs.declared.attributes.Class.TheVariants as class
use Rattle.ck_objects.specs.declared.forms.Form.{Form}
use Rattle.ck_objects.specs.declared.forms.Form.TheVariants as form
use Rattle.ck_objects.specs.declared.attributes.Purpose.{Purpose}
use Rattle.ck_objects.specs.declared.attributes.Purpose.TheVariants as purpose
use Rattle.ck_types.specs.declared.errors.RvError.{RvError}
use Rattle.ck_types.specs.declared.errors.RvError.TheVariants as rv_error
use Rattle.ck_objects.specs.declared.items.Item.{Item}

-- ---- what a template gives

-- the value that the items give an attribute type: that of the first item of the type
abbrev pub value_at : List Item → ℕ → Option (List ℕ)
value_at items kind =
    option_map (λ (item : Item). item.value) (find (λ item. item.kind == kind) items)

-- the value that the items give the type, else this one
abbrev pub value_or : List Item → ℕ → List ℕ → List ℕ
value_or items kind other = unwrap_or (value_at items kind) other

-- a flag's value as a bool
abbrev pub flag_of : Form → List ℕ → Option Bool
flag_of form.Flag value = Some (same_bytes value (flag_bytes true))
flag_of other value = None

-- the flag that the items give an attribute
abbrev pub flag_at : List Item → Attribute → Option Bool
flag_at items a = option_and_then (flag_of (form_of a)) (value_at items (type_of a))

-- ---- the checks

-- the error of a value: its type isn't known, or it isn't of the type's form
abbrev pub value_error : Option Attribute → List ℕ → Option RvError
value_error None value = Some rv_error.AttributeTypeInvalid
value_error (Some a) value =
    error_if (not (is_of_form (form_of a) value)) rv_error.AttributeValueInvalid

abbrev pub form_error : Item → Option RvError
form_error item = value_error (attribute_of item.kind) item.value

-- two items of one type have different values: an item's value isn't that of the first of its type
abbrev pub has_conflict : List Item → Bool
has_conflict items =
    list_any (λ (item : Item). not (same_bytes item.value (value_or items item.kind item.value)))
    items

-- the error where objects of the class don't have the attribute, or a template of this purpose may
-- not give it
abbrev pub error_of_permission : Option Bool → Option RvError
error_of_permission None = Some rv_error.AttributeTypeInvalid
error_of_permission (Some false) = Some rv_error.AttributeReadOnly
error_of_permission (Some true) = None

abbrev pub permission_error : Class → Purpose → Item → Option RvError
permission_error class purpose item =
    error_of_permission (option_and_then (permission class purpose) (attribute_of item.kind))

-- the class of an object with these attributes: a secret key where CKA_CLASS is CKO_SECRET_KEY (4),
-- else a data object
abbrev pub class_of : List Item → Class
class_of items =
    if same_bytes (value_or items (type_of attribute.Class) []) (number_bytes 4)
    then class.SecretKey else class.Data

-- a key's value has 1 to 4096 bytes
abbrev pub is_key_length : ℕ → Bool
is_key_length n = nat_le 1 n && nat_le n 4096

-- the error of a template that creates a key: it gives no key type or no value, or a value of a
-- length that keys don't have
abbrev pub new_key_error : List Item → Option RvError
new_key_error template = first_of (
    error_if (is_none (value_at template (type_of attribute.KeyType))) rv_error.TemplateIncomplete
    ∷ error_if (is_none (value_at template (type_of attribute.Value))) rv_error.TemplateIncomplete
    ∷ error_if (not (is_key_length (length (value_or template (type_of attribute.Value) []))))
    rv_error.AttributeValueInvalid
    ∷ [])

abbrev pub new_object_error : Class → List Item → Option RvError
new_object_error class.Data template = None
new_object_error class.SecretKey template = new_key_error template

-- the error of a template that creates an object, by the first check that fails
abbrev pub created_error : List Item → Option RvError
created_error template = first_of (
    first_error form_error template
    ∷ error_if (has_conflict template) rv_error.TemplateInconsistent
    ∷ error_if (is_none (value_at template (type_of attribute.Class))) rv_error.TemplateIncomplete
    ∷ first_error (permission_error (class_of template) purpose.Create) template
    ∷ new_object_error (class_of template) template
    ∷ [])

-- the template gives another class than that of secret keys
abbrev pub gives_other_class : List Item → Bool
gives_other_class template =
    not (same_bytes (value_or template (type_of attribute.Class) (number_bytes 4)) (number_bytes 4))

-- the length in bytes that the template gives a key's value (CKA_VALUE_LEN)
abbrev pub given_length : List Item → ℕ
given_length template = from_le_bytes w64 (value_or template (type_of attribute.ValueLen) [])

-- the error of a template that a key is generated with from these random bytes, by the first check
-- that fails
abbrev pub generated_error : List Item → List ℕ → Option RvError
generated_error template random = first_of (
    first_error form_error template
    ∷ error_if (has_conflict template) rv_error.TemplateInconsistent
    ∷ error_if (gives_other_class template) rv_error.TemplateInconsistent
    ∷ first_error (permission_error class.SecretKey purpose.Generate) template
    ∷ error_if (is_none (value_at template (type_of attribute.ValueLen)))
    rv_error.TemplateIncomplete
    ∷ error_if (not (is_key_length (given_length template))) rv_error.KeySizeRange
    ∷ error_if (not (length random == given_length template)) rv_error.ArgumentsBad
    ∷ [])

-- the error of a template that changes or copies an object of the class, by the checks that look at
-- nothing of the object except its class
abbrev pub template_error : Class → Purpose → List Item → Option RvError
template_error class purpose items = first_of (
    first_error form_error items
    ∷ error_if (has_conflict items) rv_error.TemplateInconsistent
    ∷ first_error (permission_error class purpose) items
    ∷ [])
