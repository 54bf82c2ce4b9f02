-- How the private structs of objects show as items, what a new one begins with, and what templates
-- make of them; and parts of checks that have a function of their own. These mirror the code; the
-- answers to calls aren't defined by them.
use Rattle.std.specs.Prelude.{◌≡◌, ℕ, Bool, true, false, not, ◌&&◌, ◌==◌, List, [], ◌∷◌, length}
use Rattle.std.specs.Prelude.{Option, unwrap_or, is_none}
use Rattle.std.specs.List.{list_any}
use Rattle.ck_types.specs.Checks.{error_if, first_of}
use Rattle.ck_types.specs.Numbers.{number_bytes, same_bytes}
use Rattle.ck_objects.specs.Attributes.{flag_bytes, type_of}
use Rattle.ck_objects.specs.KeyStates.{state_number}
use Rattle.ck_objects.specs.Records.{item_of, is_hidden}
use Rattle.ck_objects.specs.Templates.{value_at, value_or, flag_at}
use Rattle.ck_types.specs.declared.errors.RvError.{RvError}
use Rattle.ck_types.specs.declared.errors.RvError.TheVariants as rv_error
use Rattle.ck_objects.specs.declared.attributes.Attribute.{Attribute}
use Rattle.ck_objects.specs.declared.attributes.Attribute.TheVariants as attribute
use Rattle.ck_objects.specs.declared.data_objects.Data.{Data}
use Rattle.ck_objects.specs.declared.items.Item.{Item}
use Rattle.ck_objects.specs.declared.key_states.KeyState.TheVariants as state
use Rattle.ck_objects.specs.declared.keys.Key.{Key}
use Rattle.ck_objects.specs.declared.keys.Origin.{Origin}
use Rattle.ck_objects.specs.declared.records.Object.{Object}
use Rattle.ck_objects.specs.declared.records.Object.TheVariants as object

-- ---- an object as its attributes

abbrev pub data_items : Data → List Item
data_items d =
    item_of attribute.Class (number_bytes 0)
    ∷ item_of attribute.Token (flag_bytes d.token)
    ∷ item_of attribute.Private (flag_bytes d.private)
    ∷ item_of attribute.Label d.label
    ∷ item_of attribute.Application d.application
    ∷ item_of attribute.Value d.value
    ∷ item_of attribute.ObjectId d.object_id
    ∷ item_of attribute.Modifiable (flag_bytes d.modifiable)
    ∷ item_of attribute.Copyable (flag_bytes d.copyable)
    ∷ item_of attribute.Destroyable (flag_bytes d.destroyable)
    ∷ []

abbrev pub key_items : Key → List Item
key_items k =
    item_of attribute.Class (number_bytes 4)
    ∷ item_of attribute.Token (flag_bytes k.token)
    ∷ item_of attribute.Private (flag_bytes k.private)
    ∷ item_of attribute.Label k.label
    ∷ item_of attribute.Value k.value
    ∷ item_of attribute.KeyType (number_bytes 16)
    ∷ item_of attribute.Id k.id
    ∷ item_of attribute.Sensitive (flag_bytes k.sensitive)
    ∷ item_of attribute.Encrypt (flag_bytes k.encrypt)
    ∷ item_of attribute.Decrypt (flag_bytes k.decrypt)
    ∷ item_of attribute.Wrap (flag_bytes k.wrap)
    ∷ item_of attribute.Unwrap (flag_bytes k.unwrap)
    ∷ item_of attribute.Sign (flag_bytes k.sign)
    ∷ item_of attribute.Verify (flag_bytes k.verify)
    ∷ item_of attribute.Derive (flag_bytes k.derive)
    ∷ item_of attribute.ValueLen (number_bytes (length k.value))
    ∷ item_of attribute.Extractable (flag_bytes k.extractable)
    ∷ item_of attribute.Local (flag_bytes k.origin.local)
    ∷ item_of attribute.NeverExtractable (flag_bytes k.origin.never_extractable)
    ∷ item_of attribute.AlwaysSensitive (flag_bytes k.origin.always_sensitive)
    ∷ item_of attribute.KeyGenMechanism (number_bytes k.origin.generation)
    ∷ item_of attribute.Modifiable (flag_bytes k.modifiable)
    ∷ item_of attribute.Copyable (flag_bytes k.copyable)
    ∷ item_of attribute.Destroyable (flag_bytes k.destroyable)
    ∷ item_of attribute.KeyState (number_bytes (state_number k.state))
    ∷ []

abbrev pub object_items : Object → List Item
object_items (object.Data d) = data_items d
object_items (object.Key k) = key_items k

-- ---- the structs that a new object begins with

-- a data object with the defaults of the table of attributes
abbrev pub blank_data : Data
blank_data = record {
  token = false;
  private = false;
  label = [];
  application = [];
  value = [];
  object_id = [];
  modifiable = true;
  copyable = true;
  destroyable = true;
}

-- a key with the defaults of the table of attributes and a value of no bytes
abbrev pub blank_key : Origin → Key
blank_key origin = record {
  token = false;
  private = true;
  label = [];
  value = [];
  id = [];
  sensitive = false;
  encrypt = false;
  decrypt = false;
  wrap = false;
  unwrap = false;
  sign = true;
  verify = true;
  derive = false;
  extractable = true;
  origin = origin;
  modifiable = true;
  copyable = true;
  destroyable = true;
  state = state.Active;
}

-- the items give the attribute this value, or don't give it
abbrev pub keeps : List Item → Attribute → List ℕ → Type 0
keeps items a value = value_or items (type_of a) value ≡ value

-- the attributes of a key that stay when it is given items: the items give each as the key has it,
-- or don't give it
pub record KeepsKey (items : List Item) (key : Key) : Type 0 where
  pub class : keeps items attribute.Class (number_bytes 4)
  pub key_type : keeps items attribute.KeyType (number_bytes 16)
  pub value : keeps items attribute.Value key.value
  pub value_len : keeps items attribute.ValueLen (number_bytes (length key.value))
  pub local : keeps items attribute.Local (flag_bytes key.origin.local)
  pub never_extractable :
      keeps items attribute.NeverExtractable (flag_bytes key.origin.never_extractable)
  pub always_sensitive :
      keeps items attribute.AlwaysSensitive (flag_bytes key.origin.always_sensitive)
  pub generation : keeps items attribute.KeyGenMechanism (number_bytes key.origin.generation)

-- an object with the values that items give of the attributes that a change may give
abbrev pub changed_data : List Item → Data → Data
changed_data items d = record d {
  label = value_or items (type_of attribute.Label) d.label;
  application = value_or items (type_of attribute.Application) d.application;
  value = value_or items (type_of attribute.Value) d.value;
  object_id = value_or items (type_of attribute.ObjectId) d.object_id;
}

abbrev pub changed_key : List Item → Key → Key
changed_key items k = record k {
  label = value_or items (type_of attribute.Label) k.label;
  id = value_or items (type_of attribute.Id) k.id;
  sensitive = unwrap_or (flag_at items attribute.Sensitive) k.sensitive;
  encrypt = unwrap_or (flag_at items attribute.Encrypt) k.encrypt;
  decrypt = unwrap_or (flag_at items attribute.Decrypt) k.decrypt;
  wrap = unwrap_or (flag_at items attribute.Wrap) k.wrap;
  unwrap = unwrap_or (flag_at items attribute.Unwrap) k.unwrap;
  sign = unwrap_or (flag_at items attribute.Sign) k.sign;
  verify = unwrap_or (flag_at items attribute.Verify) k.verify;
  derive = unwrap_or (flag_at items attribute.Derive) k.derive;
  extractable = unwrap_or (flag_at items attribute.Extractable) k.extractable;
}

-- ---- parts of checks

-- items of the attribute's type have different values: one isn't that of the first
abbrev pub has_two_values : List Item → Attribute → Bool
has_two_values items a =
    list_any (λ (item : Item). (type_of a == item.kind)
    && not (same_bytes item.value (value_or items (type_of a) item.value))) items

-- why the value of an attribute type can't be read: it is hidden, or the object doesn't have it
abbrev pub read_error : List Item → ℕ → Option RvError
read_error items kind = first_of (
    error_if (is_hidden items kind) rv_error.AttributeSensitive
    ∷ error_if (is_none (value_at items kind)) rv_error.AttributeTypeInvalid
    ∷ [])
