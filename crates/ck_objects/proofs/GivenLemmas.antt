-- What items with no fault in form give
use Rattle.std.proofs.Common.{◌≡◌, ℕ, Bool, true, false, cond, List, [], ◌∷◌, Option, Some, None}
use Rattle.std.proofs.Common.{◌||◌, refl, inl, inr, sym, subst, ap, ◌∙◌}
use Rattle.std.specs.Prelude.{◌==◌, find, option_and_then, option_map, unwrap_or, is_none, length}
use Rattle.std.specs.Int.{w64, from_le_bytes}
use Rattle.std.specs.Cmp.Lexicographic.{bytes_decides}
use Rattle.std.proofs.lemmas.Bool.{not-false, eqb-true, or_cases, true≢false}
use Rattle.ck_objects.specs.Attributes.{type_of, form_of, is_of_form, permission, attribute_of}
use Rattle.ck_types.specs.Numbers.{same_bytes, number_bytes}
use Rattle.ck_objects.specs.Attributes.{flag_bytes}
use Rattle.ck_types.specs.Checks.{error_if, first_error}
use Rattle.ck_objects.specs.Templates.{value_at, value_or, flag_at, flag_of, form_error}
use Rattle.ck_objects.specs.Templates.{value_error}
use Rattle.ck_objects.specs.Templates.{permission_error, error_of_permission, class_of}
use Rattle.ck_objects.specs.Templates.{template_error, has_conflict, created_error}
use Rattle.ck_objects.specs.Templates.{new_object_error}
use Rattle.ck_objects.specs.Records.{copied_error}
use Rattle.ck_objects.specs.declared.attributes.Attribute.{Attribute}
use Rattle.ck_objects.specs.declared.attributes.Attribute.TheVariants as attribute
use Rattle.ck_objects.specs.declared.attributes.Class.{Class}
use Rattle.ck_objects.specs.declared.attributes.Class.TheVariants as class
use Rattle.ck_objects.specs.declared.forms.Form.TheVariants as form
use Rattle.ck_objects.specs.declared.attributes.Purpose.{Purpose}
use Rattle.ck_objects.specs.declared.attributes.Purpose.TheVariants as purpose
use Rattle.ck_objects.specs.declared.object_flags.Protections.{Protections}
use Rattle.ck_types.specs.declared.errors.RvError.{RvError}
use Rattle.ck_types.specs.declared.errors.RvError.TheVariants as rv_error
use Rattle.ck_objects.specs.declared.items.Item.{Item}
use Rattle.ck_types.proofs.CheckLemmas.{or_else-none, error_if-none}

-- each attribute has its type
pub attribute_of-type_of : (a : Attribute) → attribute_of (type_of a) ≡ Some a
attribute_of-type_of attribute.Class = refl
attribute_of-type_of attribute.Token = refl
attribute_of-type_of attribute.Private = refl
attribute_of-type_of attribute.Label = refl
attribute_of-type_of attribute.Application = refl
attribute_of-type_of attribute.Value = refl
attribute_of-type_of attribute.ObjectId = refl
attribute_of-type_of attribute.KeyType = refl
attribute_of-type_of attribute.Id = refl
attribute_of-type_of attribute.Sensitive = refl
attribute_of-type_of attribute.Encrypt = refl
attribute_of-type_of attribute.Decrypt = refl
attribute_of-type_of attribute.Wrap = refl
attribute_of-type_of attribute.Unwrap = refl
attribute_of-type_of attribute.Sign = refl
attribute_of-type_of attribute.Verify = refl
attribute_of-type_of attribute.Derive = refl
attribute_of-type_of attribute.ValueLen = refl
attribute_of-type_of attribute.Extractable = refl
attribute_of-type_of attribute.Local = refl
attribute_of-type_of attribute.NeverExtractable = refl
attribute_of-type_of attribute.AlwaysSensitive = refl
attribute_of-type_of attribute.KeyGenMechanism = refl
attribute_of-type_of attribute.Modifiable = refl
attribute_of-type_of attribute.Copyable = refl
attribute_of-type_of attribute.Destroyable = refl
attribute_of-type_of attribute.KeyState = refl

-- a value with no fault in form is of its attribute's form
is_of_form-value : (a : Attribute) (value : List ℕ) → value_error (Some a) value ≡ None
    → is_of_form (form_of a) value ≡ true
is_of_form-value a value e = not-false (is_of_form (form_of a) value) (error_if-none _ _ e)

module _ (check : Item → Option RvError) (kind : ℕ) (value : List ℕ) where
  none-first : (test : Bool) (item : Item) (items : List Item)
      → (first_error check items ≡ None → value_at items kind ≡ Some value
      → check (record { kind = kind; value = value }) ≡ None)
      → (item.kind == kind) ≡ test
      → first_error check (item ∷ items) ≡ None
      → option_map (λ (i : Item). i.value)
      (cond test (Some item) (find (λ i. i.kind == kind) items)) ≡ Some value
      → check (record { kind = kind; value = value }) ≡ None
  none-first true item items later t fine e =
      let here = (or_else-none (check item) (first_error check items) fine).0 in
      let same : item.value ≡ value = cc in
      subst (λ v. check (record { kind = kind; value = v }) ≡ None) same
      (subst (λ n. check (record { kind = n; value = item.value }) ≡ None)
      (eqb-true item.kind kind t) here)
  none-first false item items later t fine e =
      later (or_else-none (check item) (first_error check items) fine).1 e

  -- a check that refuses no item doesn't refuse what the items give
  none-given : (items : List Item) → first_error check items ≡ None
      → value_at items kind ≡ Some value → check (record { kind = kind; value = value }) ≡ None
  none-given [] fine e = cc
  none-given (item ∷ items) fine e =
      none-first (item.kind == kind) item items (none-given items) refl fine e

-- what items with no fault in form give an attribute has none
value_error-given : (a : Attribute) (value : List ℕ) (items : List Item)
    → first_error form_error items ≡ None → value_at items (type_of a) ≡ Some value
    → value_error (Some a) value ≡ None
value_error-given a value items fine e =
    subst (λ o. value_error o value ≡ None) (attribute_of-type_of a)
    (none-given form_error (type_of a) value items fine e)

flag_bytes-test : (test : Bool) (value : List ℕ) → same_bytes value (flag_bytes true) ≡ test
    → (same_bytes value (flag_bytes false) || test) ≡ true → flag_bytes test ≡ value
flag_bytes-test true value t h = sym ((bytes_decides value (flag_bytes true)).0 t)
flag_bytes-test false value t h =
    elim (or_cases (same_bytes value (flag_bytes false)) false h) [
      | inl e ↦ sym ((bytes_decides value (flag_bytes false)).0 e)
      | inr e ↦ absurd (true≢false (sym e))
    ]

-- a value of the form of a flag is the bytes of the flag that it is
pub flag_bytes-is_true : (value : List ℕ) → is_of_form form.Flag value ≡ true
    → flag_bytes (same_bytes value (flag_bytes true)) ≡ value
flag_bytes-is_true value h = flag_bytes-test (same_bytes value (flag_bytes true)) value refl h

-- the flag that items with no fault in form give an attribute
pub flag_bytes-given : (items : List Item) (a : Attribute) (value : List ℕ) → form_of a ≡ form.Flag
    → first_error form_error items ≡ None
    → value_at items (type_of a) ≡ Some value
    → flag_bytes (same_bytes value (flag_bytes true)) ≡ value
flag_bytes-given items a value flag fine e =
    flag_bytes-is_true value (subst (λ f. is_of_form f value ≡ true) flag
    (is_of_form-value a value (value_error-given a value items fine e)))

-- the same, where a test of the value says which flag it is
pub flag_bytes-given_or : (items : List Item) (a : Attribute) (kind : ℕ) (value other : List ℕ)
    (test : Bool) → form_of a ≡ form.Flag → first_error form_error items ≡ None
    → Some value ≡ value_at items kind → kind ≡ type_of a
    → test ≡ same_bytes value (flag_bytes true) → flag_bytes test ≡ value_or items (type_of a) other
flag_bytes-given_or items a kind value other test flag fine e k t =
    let here : value_at items (type_of a) ≡ Some value =
    subst (λ n. value_at items n ≡ Some value) k (sym e) in
    rw (t, here) (flag_bytes-given items a value flag fine here)

or-default : (o : Option (List ℕ)) (other : List ℕ)
    → ((value : List ℕ) → o ≡ Some value → value ≡ other) → unwrap_or o other ≡ other
or-default None other h = refl
or-default (Some value) other h = h value refl

-- a value of the form of a number, read as one
number-of-form : (fits : Bool) (value : List ℕ) (number : Option ℕ) → fits ≡ true
    → number ≡ cond fits (Some (from_le_bytes w64 value)) None
    → number ≡ Some (from_le_bytes w64 value)
number-of-form true value number f e = e
number-of-form false value number f e = cc

pub number-given : (items : List Item) (a : Attribute) (kind : ℕ) (value : List ℕ)
    (number : Option ℕ) → form_of a ≡ form.Number → first_error form_error items ≡ None
    → Some value ≡ value_at items kind → kind ≡ type_of a
    → number ≡ cond (length value == 8) (Some (from_le_bytes w64 value)) None
    → (number ≡ Some (from_le_bytes w64 value)) × (length value == 8 ≡ true)
    × (value_at items (type_of a) ≡ Some value)
number-given items a kind value number is_number fine e k read =
    let here : value_at items (type_of a) ≡ Some value =
    subst (λ n. value_at items n ≡ Some value) k (sym e) in
    let fits : (length value == 8) ≡ true = subst (λ f. is_of_form f value ≡ true) is_number
    (is_of_form-value a value (value_error-given a value items fine here)) in
    (number-of-form (length value == 8) value number fits read, fits, here)

-- a key state that is given and isn't 0 is 1
pub active-given : (items : List Item) (kind : ℕ) (value other : List ℕ)
    → first_error form_error items ≡ None
    → Some value ≡ value_at items kind → kind ≡ type_of attribute.KeyState
    → same_bytes value (number_bytes 0) ≡ false
    → number_bytes 1 ≡ value_or items (type_of attribute.KeyState) other
active-given items kind value other fine e k inactive =
    let here : value_at items (type_of attribute.KeyState) ≡ Some value =
    subst (λ n. value_at items n ≡ Some value) k (sym e) in
    let fits : (same_bytes value (number_bytes 0) || same_bytes value (number_bytes 1)) ≡ true =
    is_of_form-value attribute.KeyState value
    (value_error-given attribute.KeyState value items fine here) in
    elim (or_cases (same_bytes value (number_bytes 0)) (same_bytes value (number_bytes 1)) fits) [
      | inl zero ↦ absurd (true≢false (sym zero ∙ inactive))
      | inr one ↦ sym (ap (λ o. unwrap_or o other) here
          ∙ (bytes_decides value (number_bytes 1)).0 one)
    ]

-- a key type that is given is 16
pub key_type-given : (items : List Item) (other : List ℕ) → first_error form_error items ≡ None
    → is_none (value_at items (type_of attribute.KeyType)) ≡ false
    → value_or items (type_of attribute.KeyType) other ≡ number_bytes 16
key_type-given items other fine given = cases (value_at items (type_of attribute.KeyType)) refl
    given
  where
    cases : (o : Option (List ℕ)) → value_at items (type_of attribute.KeyType) ≡ o
        → is_none o ≡ false → unwrap_or o other ≡ number_bytes 16
    cases None e g = cc
    cases (Some value) e g = (bytes_decides value (number_bytes 16)).0
        (is_of_form-value attribute.KeyType value
        (value_error-given attribute.KeyType value items fine e))

pub key_type-kept : (items : List Item) → first_error form_error items ≡ None
    → value_or items (type_of attribute.KeyType) (number_bytes 16) ≡ number_bytes 16
key_type-kept items fine =
    or-default (value_at items (type_of attribute.KeyType)) (number_bytes 16)
    (λ value e. (bytes_decides value (number_bytes 16)).0
    (is_of_form-value attribute.KeyType value
    (value_error-given attribute.KeyType value items fine e)))

-- ---- a template that passes the checks of a creation

-- its items have no fault in form, it gives a class, and no attribute that it may not give, and it
-- passes the checks of its class
pub record PassesCreation (items : List Item) : Type 0 where
  pub formed : first_error form_error items ≡ None
  pub class : is_none (value_at items (type_of attribute.Class)) ≡ false
  pub permitted : first_error (permission_error (class_of items) purpose.Create) items ≡ None
  pub object : new_object_error (class_of items) items ≡ None

pub creation-passes : (items : List Item) → created_error items ≡ None → PassesCreation items
creation-passes items fine =
    let form = or_else-none (first_error form_error items) _ fine in
    let unlike =
    or_else-none (error_if (has_conflict items) rv_error.TemplateInconsistent) _ form.1 in
    let given =
    or_else-none
    (error_if (is_none (value_at items (type_of attribute.Class))) rv_error.TemplateIncomplete) _
    unlike.1 in
    let may =
    or_else-none (first_error (permission_error (class_of items) purpose.Create) items) _
    given.1 in
    record {
      formed = form.0;
      class = error_if-none _ _ given.0;
      permitted = may.0;
      object = (or_else-none (new_object_error (class_of items) items) None may.1).0;
    }

-- a class that isn't that of keys is that of data objects
data-class : (value : List ℕ) → is_of_form form.Class value ≡ true
    → cond (same_bytes value (number_bytes 4)) class.SecretKey class.Data ≡ class.Data
    → value ≡ number_bytes 0
data-class value fits e =
    test (same_bytes value (number_bytes 0)) (same_bytes value (number_bytes 4))
    (λ t. (bytes_decides value (number_bytes 0)).0 t) fits e
  where
    test : (data_class key_class : Bool) → (data_class ≡ true → value ≡ number_bytes 0)
        → (data_class || key_class) ≡ true
        → cond key_class class.SecretKey class.Data ≡ class.Data → value ≡ number_bytes 0
    test true key_class h fits e = h refl
    test false true h fits e = cc
    test false false h fits e = cc

pub data-created : (items : List Item) → class_of items ≡ class.Data → created_error items ≡ None
    → value_or items (type_of attribute.Class) (number_bytes 0) ≡ number_bytes 0
data-created items data_class fine =
    or-default (value_at items (type_of attribute.Class)) (number_bytes 0)
    (λ value e. data-class value
    (is_of_form-value attribute.Class value
    (value_error-given attribute.Class value items (creation-passes items fine).formed e))
    (subst (λ o. cond (same_bytes (unwrap_or o []) (number_bytes 4)) class.SecretKey class.Data
    ≡ class.Data) e data_class))

-- a value that is given is given whatever else there would be
pub other-default : (o : Option (List ℕ)) (other another value : List ℕ) → is_none o ≡ false
    → unwrap_or o other ≡ value → unwrap_or o another ≡ value
other-default None other another value given e = cc
other-default (Some found) other another value given e = e

pub data-class-given : (items : List Item) → class_of items ≡ class.Data
    → created_error items ≡ None
    → value_or items (type_of attribute.Class) [] ≡ number_bytes 0
data-class-given items data_class fine =
    other-default (value_at items (type_of attribute.Class)) (number_bytes 0) [] (number_bytes 0)
    (creation-passes items fine).class (data-created items data_class fine)

-- ---- a template that passes the checks of a copy or a change

-- it doesn't give an attribute that it may not give, whatever the reason
pub no-value-refused : (c : Class) (p : Purpose) (a : Attribute) (items : List Item)
    (error : RvError) → error_of_permission (permission c p a) ≡ Some error
    → first_error (permission_error c p) items ≡ None → value_at items (type_of a) ≡ None
no-value-refused c p a items error refused fine = cases (value_at items (type_of a)) refl
  where
    cases : (o : Option (List ℕ)) → value_at items (type_of a) ≡ o → o ≡ None
    cases None e = refl
    cases (Some value) e =
        let passes = none-given (permission_error c p) (type_of a) value items fine e in
        let permitted : error_of_permission (permission c p a) ≡ None =
        subst (λ o. error_of_permission (option_and_then (permission c p) o) ≡ None)
        (attribute_of-type_of a) passes in
        cc

pub no-value : (c : Class) (p : Purpose) (a : Attribute) (items : List Item)
    → permission c p a ≡ Some false
    → first_error (permission_error c p) items ≡ None → value_at items (type_of a) ≡ None
no-value c p a items read_only fine =
    no-value-refused c p a items rv_error.AttributeReadOnly (ap error_of_permission read_only) fine

-- its items have no fault in form, and may be given
pub template-passes : (c : Class) (p : Purpose) (items : List Item)
    → template_error c p items ≡ None
    → (first_error form_error items ≡ None) × (first_error (permission_error c p) items ≡ None)
template-passes c p items fine =
    let parts = or_else-none (first_error form_error items) _ fine in
    let rest =
    (or_else-none (error_if (has_conflict items) rv_error.TemplateInconsistent) _ parts.1).1 in
    (parts.0, (or_else-none (first_error (permission_error c p) items) None rest).0)

pub copy-passes : (c : Class) (protections : Protections) (items : List Item)
    → copied_error c protections items ≡ None
    → (first_error form_error items ≡ None)
    × (first_error (permission_error c purpose.Copy) items ≡ None)
copy-passes c protections items fine =
    template-passes c purpose.Copy items
    (or_else-none (template_error c purpose.Copy items) _ fine).0

-- the flag that items with no fault in form give, as bytes
pub flag-given : (items : List Item) (a : Attribute) (other : Bool) → form_of a ≡ form.Flag
    → first_error form_error items ≡ None
    → flag_bytes (unwrap_or (flag_at items a) other)
    ≡ value_or items (type_of a) (flag_bytes other)
flag-given items a other flag fine = by_case (value_at items (type_of a)) refl
  where
    by_case : (o : Option (List ℕ)) → value_at items (type_of a) ≡ o
        → flag_bytes (unwrap_or (option_and_then (flag_of (form_of a)) o) other)
        ≡ unwrap_or o (flag_bytes other)
    by_case None e = refl
    by_case (Some value) e =
        subst (λ f. flag_bytes (unwrap_or (flag_of f value) other) ≡ value) (sym flag)
        (flag_bytes-given items a value flag fine e)
