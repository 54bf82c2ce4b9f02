-- The attributes of new keys and data objects
use Rattle.std.proofs.Common.{◌≡◌, ℕ, Bool, true, false, cond, List, [], Option, Some, None}
use Rattle.std.proofs.Common.{not, refl, sym, subst, ap, ◌∙◌}
use Rattle.std.specs.Prelude.{◌==◌, option_and_then, option_map, unwrap_or, is_none, length}
use Rattle.std.specs.List.{flat_map}
use Rattle.std.specs.Int.{w64, from_le_bytes}
use Rattle.std.specs.Cmp.Lexicographic.{bytes_decides}
use Rattle.std.proofs.lemmas.Bool.{not-false, eqb-true}
use Rattle.ck_objects.specs.Attributes.{Column, type_of, column_of, permission, attributes}
use Rattle.ck_types.specs.Numbers.{same_bytes, number_bytes}
use Rattle.ck_objects.specs.Attributes.{flag_bytes}
use Rattle.ck_types.specs.Checks.{error_if, first_error}
use Rattle.ck_objects.specs.Templates.{value_at, value_or, flag_at, flag_of, form_error, class_of}
use Rattle.ck_objects.specs.Templates.{permission_error, created_error, generated_error}
use Rattle.ck_objects.specs.Templates.{has_conflict}
use Rattle.ck_objects.specs.Templates.{gives_other_class, is_key_length, given_length}
use Rattle.ck_objects.specs.Templates.{new_key_error}
use Rattle.ck_objects.specs.Templates.{new_object_error}
use Rattle.ck_objects.specs.Records.{with_given}
use Rattle.ck_objects.specs.Structs.{keeps, KeepsKey, data_items, key_items, blank_data}
use Rattle.ck_objects.specs.Records.{created_items, generated_items, new_item, placement_of}
use Rattle.ck_objects.specs.Structs.{blank_key}
use Rattle.ck_objects.specs.Records.{is_key_class, is_set}
use Rattle.ck_objects.specs.declared.attributes.Attribute.{Attribute}
use Rattle.ck_objects.specs.declared.attributes.Attribute.TheVariants as attribute
use Rattle.ck_objects.specs.declared.attributes.Class.{Class}
use Rattle.ck_objects.specs.declared.attributes.Class.TheVariants as class
use Rattle.ck_objects.specs.declared.forms.Form.TheVariants as form
use Rattle.ck_objects.specs.declared.attributes.Purpose.{Purpose}
use Rattle.ck_objects.specs.declared.attributes.Purpose.TheVariants as purpose
use Rattle.ck_types.specs.declared.errors.RvError.TheVariants as rv_error
use Rattle.ck_objects.specs.declared.data_objects.Data.{Data}
use Rattle.ck_objects.specs.declared.items.Item.{Item}
use Rattle.ck_objects.specs.declared.keys.Key.{Key}
use Rattle.ck_objects.specs.declared.keys.Origin.{Origin}
use Rattle.ck_objects.specs.declared.object_flags.Placement.{Placement}
use Rattle.ck_types.proofs.CheckLemmas.{or_else-none, error_if-none}
use Rattle.ck_objects.proofs.FlagLemmas.{same_bytes-flag_bytes}
use Rattle.ck_objects.proofs.GivenLemmas.{no-value, key_type-kept, key_type-given}
use Rattle.ck_objects.proofs.GivenLemmas.{creation-passes, other-default, data-class-given}
use Rattle.ck_objects.proofs.GivenLemmas.{data-created}

-- ---- what a key keeps

-- what a template may not give it doesn't give
pub keeps-unpermitted : (p : Purpose) (a : Attribute) (items : List Item) (value : List ℕ)
    → permission class.SecretKey p a ≡ Some false
    → first_error (permission_error class.SecretKey p) items ≡ None
    → keeps items a value
keeps-unpermitted p a items value read_only fine =
    ap (λ o. unwrap_or o value) (no-value class.SecretKey p a items read_only fine)

-- a key that is copied keeps them all
pub copy-keeps : (items : List Item) (key : Key) → first_error form_error items ≡ None
    → first_error (permission_error class.SecretKey purpose.Copy) items ≡ None
    → KeepsKey items key
copy-keeps items key form fine = record {
  class = keeps-unpermitted purpose.Copy attribute.Class items _ refl fine;
  key_type = key_type-kept items form;
  value = keeps-unpermitted purpose.Copy attribute.Value items _ refl fine;
  value_len = keeps-unpermitted purpose.Copy attribute.ValueLen items _ refl fine;
  local = keeps-unpermitted purpose.Copy attribute.Local items _ refl fine;
  never_extractable = keeps-unpermitted purpose.Copy attribute.NeverExtractable items _ refl fine;
  always_sensitive = keeps-unpermitted purpose.Copy attribute.AlwaysSensitive items _ refl fine;
  generation = keeps-unpermitted purpose.Copy attribute.KeyGenMechanism items _ refl fine;
}

-- ---- a created key

-- its template gives the class of keys
key-class-given : (items : List Item) → class_of items ≡ class.SecretKey
    → value_or items (type_of attribute.Class) [] ≡ number_bytes 4
key-class-given items key_class =
    (bytes_decides (value_or items (type_of attribute.Class) []) (number_bytes 4)).0
    (is_key (same_bytes (value_or items (type_of attribute.Class) []) (number_bytes 4)) key_class)
  where
    is_key : (test : Bool) → cond test class.SecretKey class.Data ≡ class.SecretKey → test ≡ true
    is_key true e = refl
    is_key false e = cc

permitted-key : (items : List Item) → class_of items ≡ class.SecretKey
    → created_error items ≡ None
    → first_error (permission_error class.SecretKey purpose.Create) items ≡ None
permitted-key items key_class fine =
    subst (λ c. first_error (permission_error c purpose.Create) items ≡ None) key_class
    (creation-passes items fine).permitted

kept-value : (o : Option (List ℕ)) (value : List ℕ) → value ≡ unwrap_or o []
    → unwrap_or o value ≡ value
kept-value None value e = refl
kept-value (Some given) value e = sym e

-- it gives the value, and nothing else that a key keeps
pub creation-keeps : (items : List Item) (key : Key) → class_of items ≡ class.SecretKey
    → created_error items ≡ None → key.value ≡ value_or items (type_of attribute.Value) []
    → KeepsKey items key
creation-keeps items key key_class fine same =
    let permitted = permitted-key items key_class fine in
    record {
      class = other-default (value_at items (type_of attribute.Class)) [] (number_bytes 4)
          (number_bytes 4) (creation-passes items fine).class (key-class-given items key_class);
      key_type = key_type-kept items (creation-passes items fine).formed;
      value = kept-value (value_at items (type_of attribute.Value)) key.value same;
      value_len = keeps-unpermitted purpose.Create attribute.ValueLen items _ refl permitted;
      local = keeps-unpermitted purpose.Create attribute.Local items _ refl permitted;
      never_extractable =
          keeps-unpermitted purpose.Create attribute.NeverExtractable items _ refl permitted;
      always_sensitive =
          keeps-unpermitted purpose.Create attribute.AlwaysSensitive items _ refl permitted;
      generation = keeps-unpermitted purpose.Create attribute.KeyGenMechanism items _ refl
          permitted;
    }

-- what a template creates, where its class is known
new_items : Class → List Item → List Item
new_items c template =
    flat_map (λ a. new_item a
    (option_map (λ (entry : Column). entry.created) (column_of c a)) template []) attributes

created-of-class : (c : Class) (template : List Item) → class_of template ≡ c
    → created_items template ≡ new_items c template
unfolding created_items new_items
created-of-class c template e = ap (λ c. new_items c template) e

-- for a data object the defaults with the template's values
pub created-data : (template : List Item) → class_of template ≡ class.Data
    → created_error template ≡ None
    → with_given template (data_items blank_data) ≡ created_items template
unfolding new_items
created-data template data_class fine =
    (rw (data-created template data_class fine)
    (sym (rw (data-class-given template data_class fine) refl)))
    ∙ sym (created-of-class class.Data template data_class)

-- a template that passes the checks gives a key type and a value
key_type-created : (items : List Item) → new_key_error items ≡ None
    → is_none (value_at items (type_of attribute.KeyType)) ≡ false
key_type-created items fine =
    error_if-none _ _
    (or_else-none
    (error_if (is_none (value_at items (type_of attribute.KeyType))) rv_error.TemplateIncomplete) _
    fine).0

new-key : (items : List Item) → class_of items ≡ class.SecretKey → created_error items ≡ None
    → new_key_error items ≡ None
new-key items key_class fine =
    subst (λ c. new_object_error c items ≡ None) key_class (creation-passes items fine).object

-- how a created key came to be
abbrev pub created_origin : Origin
created_origin = record {
  local = false;
  never_extractable = false;
  always_sensitive = false;
  generation = 0xffffffffffffffff;
}

key-items-created : (template : List Item) (value : List ℕ)
    → value_or template (type_of attribute.Class) (number_bytes 4) ≡ number_bytes 4
    → value_or template (type_of attribute.Class) [] ≡ number_bytes 4
    → value_or template (type_of attribute.KeyType) (number_bytes 16) ≡ number_bytes 16
    → value_or template (type_of attribute.KeyType) [] ≡ number_bytes 16
    → value_or template (type_of attribute.Value) value ≡ value
    → value ≡ value_or template (type_of attribute.Value) []
    → value_or template (type_of attribute.ValueLen) (number_bytes (length value))
    ≡ number_bytes (length value)
    → with_given template
    (key_items (record (blank_key created_origin) { value = value }))
    ≡ new_items class.SecretKey template
unfolding new_items
key-items-created template value c1 c2 k1 k2 v1 v2 l = cc

-- for a key the defaults with the template's values, its value among them
pub created-key : (template : List Item) (value : List ℕ) → class_of template ≡ class.SecretKey
    → created_error template ≡ None → value ≡ value_or template (type_of attribute.Value) []
    → with_given template
    (key_items (record (blank_key created_origin) { value = value }))
    ≡ created_items template
created-key template value key_class fine same =
    let kept =
    creation-keeps template (record (blank_key created_origin) { value = value }) key_class fine
    same in
    let form = (creation-passes template fine).formed in
    key-items-created template value kept.class (key-class-given template key_class) kept.key_type
    (key_type-given template [] form (key_type-created template (new-key template key_class fine)))
    kept.value same kept.value_len
    ∙ sym (created-of-class class.SecretKey template key_class)

-- ---- a generated key

-- a template that passes the checks of a generation
pub record PassesGeneration (template : List Item) (random : List ℕ) : Type 0 where
  pub form : first_error form_error template ≡ None
  pub permitted : first_error (permission_error class.SecretKey purpose.Generate) template ≡ None
  pub key_class : keeps template attribute.Class (number_bytes 4)
  pub given : is_none (value_at template (type_of attribute.ValueLen)) ≡ false
  pub length : length random ≡ given_length template

-- each check finds no error
pub generation-passes : (template : List Item) (random : List ℕ)
    → generated_error template random ≡ None → PassesGeneration template random
generation-passes template random fine =
    let a = or_else-none (first_error form_error template) _ fine in
    let b = or_else-none (error_if (has_conflict template) rv_error.TemplateInconsistent) _ a.1 in
    let c = or_else-none (error_if (gives_other_class template) rv_error.TemplateInconsistent) _
    b.1 in
    let d = or_else-none (first_error (permission_error class.SecretKey purpose.Generate) template)
    _ c.1 in
    let e = or_else-none
    (error_if (is_none (value_at template (type_of attribute.ValueLen)))
    rv_error.TemplateIncomplete)
    _ d.1 in
    let f = or_else-none
    (error_if (not (is_key_length (given_length template))) rv_error.KeySizeRange) _ e.1 in
    let g = or_else-none
    (error_if (not (length random == given_length template)) rv_error.ArgumentsBad) None f.1 in
    record {
      form = a.0;
      key_class = (bytes_decides (value_or template (type_of attribute.Class) (number_bytes 4))
          (number_bytes 4)).0 (not-false _ (error_if-none _ _ c.0));
      permitted = d.0;
      given = error_if-none _ _ e.0;
      length = eqb-true (length random) (given_length template)
          (not-false _ (error_if-none _ _ g.0));
    }

-- the length that its template gives is that of the random bytes
pub length-generated : (template : List Item) (random : List ℕ)
    → generated_error template random ≡ None
    → option_map (from_le_bytes w64) (value_at template (type_of attribute.ValueLen))
    ≡ Some (length random)
length-generated template random fine =
    let passes = generation-passes template random fine in
    read (value_at template (type_of attribute.ValueLen)) passes.given passes.length
  where
    read : (o : Option (List ℕ)) → is_none o ≡ false
        → length random ≡ from_le_bytes w64 (unwrap_or o [])
        → option_map (from_le_bytes w64) o ≡ Some (length random)
    read None given e = cc
    read (Some value) given e = ap (λ n. Some n) (sym e)

-- it gives the length of the value, and nothing else that a key keeps
pub generation-keeps : (items : List Item) (random : List ℕ) (key : Key)
    → generated_error items random ≡ None
    → value_at items (type_of attribute.ValueLen) ≡ Some (number_bytes (length random))
    → key.value ≡ random
    → KeepsKey items key
generation-keeps items random key fine given same =
    let passes = generation-passes items random fine in
    let permitted = passes.permitted in
    record {
      class = passes.key_class;
      key_type = key_type-kept items passes.form;
      value = keeps-unpermitted purpose.Generate attribute.Value items _ refl permitted;
      value_len = rw (same, given) refl;
      local = keeps-unpermitted purpose.Generate attribute.Local items _ refl permitted;
      never_extractable =
          keeps-unpermitted purpose.Generate attribute.NeverExtractable items _ refl permitted;
      always_sensitive =
          keeps-unpermitted purpose.Generate attribute.AlwaysSensitive items _ refl permitted;
      generation = keeps-unpermitted purpose.Generate attribute.KeyGenMechanism items _ refl
          permitted;
    }

-- how a generated key came to be
abbrev pub generated_origin : List Item → Origin
generated_origin template = record {
  local = true;
  never_extractable = not (unwrap_or (flag_at template attribute.Extractable) true);
  always_sensitive = unwrap_or (flag_at template attribute.Sensitive) false;
  generation = 0x350;
}

key-items-generated : (template : List Item) (random : List ℕ)
    → value_or template (type_of attribute.Value) random ≡ random
    → value_or template (type_of attribute.ValueLen) (number_bytes (length random))
    ≡ number_bytes (length random)
    → value_or template (type_of attribute.ValueLen) [] ≡ number_bytes (length random)
    → value_or template (type_of attribute.NeverExtractable)
    (flag_bytes (not (unwrap_or (flag_at template attribute.Extractable) true)))
    ≡ flag_bytes (not (unwrap_or (flag_at template attribute.Extractable) true))
    → value_or template (type_of attribute.AlwaysSensitive)
    (flag_bytes (unwrap_or (flag_at template attribute.Sensitive) false))
    ≡ flag_bytes (unwrap_or (flag_at template attribute.Sensitive) false)
    → with_given template
    (key_items (record (blank_key (generated_origin template)) { value = random }))
    ≡ generated_items template random
unfolding generated_items
key-items-generated template random v l1 l2 n a = cc

-- what is generated is the defaults with the template's values and the random bytes
pub generated-key : (template : List Item) (random : List ℕ)
    → generated_error template random ≡ None
    → value_at template (type_of attribute.ValueLen) ≡ Some (number_bytes (length random))
    → with_given template
    (key_items (record (blank_key (generated_origin template)) { value = random }))
    ≡ generated_items template random
generated-key template random fine given =
    let kept =
    generation-keeps template random
    (record (blank_key (generated_origin template)) { value = random }) fine given refl in
    key-items-generated template random kept.value kept.value_len
    (ap (λ o. unwrap_or o []) given) kept.never_extractable kept.always_sensitive

-- ---- placements

-- a flag that is given or not, as bytes and as a flag
given-flag : (o : Option (List ℕ)) (other : Bool)
    → same_bytes (unwrap_or o (flag_bytes other)) (flag_bytes true)
    ≡ unwrap_or (option_and_then (flag_of form.Flag) o) other
given-flag None true = refl
given-flag None false = refl
given-flag (Some value) other = refl

new-placement : (c : Class) (template : List Item)
    → placement_of (new_items c template)
    ≡ record {
      token = unwrap_or (flag_at template attribute.Token) false;
      private = unwrap_or (flag_at template attribute.Private) (is_key_class c);
    }
unfolding new_items
new-placement class.Data template =
    let token = given-flag (value_at template (type_of attribute.Token)) false in
    let private = given-flag (value_at template (type_of attribute.Private)) false in
    rw (token, private) refl
new-placement class.SecretKey template =
    let token = given-flag (value_at template (type_of attribute.Token)) false in
    let private = given-flag (value_at template (type_of attribute.Private)) true in
    rw (token, private) refl

-- where the object that a template creates is placed
pub created-placement : (template : List Item)
    → placement_of (created_items template)
    ≡ record {
      token = unwrap_or (flag_at template attribute.Token) false;
      private = unwrap_or (flag_at template attribute.Private) (is_key_class (class_of template));
    }
created-placement template =
    ap placement_of (created-of-class (class_of template) template refl)
    ∙ new-placement (class_of template) template

-- and the key that is generated with one
pub generated-placement : (template : List Item) (random : List ℕ)
    → placement_of (generated_items template random)
    ≡ record {
      token = unwrap_or (flag_at template attribute.Token) false;
      private = unwrap_or (flag_at template attribute.Private) true;
    }
unfolding generated_items
generated-placement template random =
    let token = given-flag (value_at template (type_of attribute.Token)) false in
    let private = given-flag (value_at template (type_of attribute.Private)) true in
    rw (token, private) refl

-- a placement of these flags
pub same-placement : (placement : Placement) (token private : Bool) → placement.token ≡ token
    → placement.private ≡ private
    → placement ≡ record { token = token; private = private }
same-placement placement token private t p = rw (sym t, sym p) refl

-- ---- what protects a new key

new-unprotected : (c : Class) (template : List Item) → class_of template ≡ c
    → created_error template ≡ None
    → (is_set (new_items c template) attribute.AlwaysSensitive ≡ false)
    × (is_set (new_items c template) attribute.NeverExtractable ≡ false)
unfolding new_items
new-unprotected class.Data template e fine = (refl, refl)
new-unprotected class.SecretKey template e fine =
    let permitted = permitted-key template e fine in
    let sensitive = keeps-unpermitted purpose.Create attribute.AlwaysSensitive template
    (flag_bytes false) refl permitted in
    let extractable = keeps-unpermitted purpose.Create attribute.NeverExtractable template
    (flag_bytes false) refl permitted in
    (rw sensitive refl, rw extractable refl)

-- a created key wasn't always sensitive, nor never extractable
pub created-unprotected : (template : List Item) → created_error template ≡ None
    → (is_set (created_items template) attribute.AlwaysSensitive ≡ false)
    × (is_set (created_items template) attribute.NeverExtractable ≡ false)
created-unprotected template fine =
    rw (created-of-class (class_of template) template refl)
    (new-unprotected (class_of template) template refl fine)

-- a generated one was where it is sensitive
pub generated-sensitive : (template : List Item) (random : List ℕ)
    → is_set (generated_items template random) attribute.Sensitive
    ≡ is_set (generated_items template random) attribute.AlwaysSensitive
unfolding generated_items
generated-sensitive template random =
    given-flag (value_at template (type_of attribute.Sensitive)) false
    ∙ sym (same_bytes-flag_bytes (unwrap_or (flag_at template attribute.Sensitive) false))

-- and where it isn't extractable
pub generated-extractable : (template : List Item) (random : List ℕ)
    → not (is_set (generated_items template random) attribute.Extractable)
    ≡ is_set (generated_items template random) attribute.NeverExtractable
unfolding generated_items
generated-extractable template random =
    ap not (given-flag (value_at template (type_of attribute.Extractable)) true)
    ∙ sym (same_bytes-flag_bytes (not (unwrap_or (flag_at template attribute.Extractable) true)))

-- ---- a copy of a data object

-- is one of no other class
pub data-copy : (source items : List Item) (d : Data) → source ≡ data_items d
    → first_error (permission_error (class_of source) purpose.Copy) items ≡ None
    → value_or items (type_of attribute.Class) (number_bytes 0) ≡ number_bytes 0
data-copy source items d e fine =
    let permitted : first_error (permission_error class.Data purpose.Copy) items ≡ None =
    subst (λ s. first_error (permission_error (class_of s) purpose.Copy) items ≡ None) e fine in
    ap (λ o. unwrap_or o (number_bytes 0))
    (no-value class.Data purpose.Copy attribute.Class items refl permitted)
