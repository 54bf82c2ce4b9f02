-- What a template gives an object
use Rattle.std.proofs.Common.{◌≡◌, ℕ, Bool, false, List, Some, None, refl, sym, ap}
use Rattle.std.specs.Prelude.{unwrap_or}
use Rattle.ck_types.specs.Numbers.{number_bytes}
use Rattle.ck_objects.specs.Attributes.{type_of, form_of, permission, flag_bytes}
use Rattle.ck_types.specs.Checks.{first_error}
use Rattle.ck_objects.specs.KeyStates.{state_number}
use Rattle.ck_objects.specs.Templates.{value_or, flag_at, form_error, template_error}
use Rattle.ck_objects.specs.Records.{with_given}
use Rattle.ck_objects.specs.Structs.{keeps, KeepsKey, data_items, key_items}
use Rattle.ck_objects.specs.Structs.{changed_data, changed_key}
use Rattle.ck_objects.specs.declared.attributes.Attribute.{Attribute}
use Rattle.ck_objects.specs.declared.attributes.Attribute.TheVariants as attribute
use Rattle.ck_objects.specs.declared.attributes.Class.TheVariants as class
use Rattle.ck_objects.specs.declared.attributes.Purpose.TheVariants as purpose
use Rattle.ck_objects.specs.declared.data_objects.Data.{Data}
use Rattle.ck_objects.specs.declared.forms.Form.TheVariants as form
use Rattle.ck_objects.specs.declared.items.Item.{Item}
use Rattle.ck_objects.specs.declared.key_states.KeyState.{KeyState}
use Rattle.ck_objects.specs.declared.keys.Key.{Key}
use Rattle.ck_objects.proofs.GivenLemmas.{flag-given, key_type-kept, no-value, template-passes}
use Rattle.ck_objects.proofs.KeyLemmas.{keeps-unpermitted}

module _ (items : List Item) (k : Key) (token private modifiable copyable destroyable : Bool)
    (state : KeyState) where
  -- a key with all values that the items give, where they give what it keeps as it is
  pub given-key : first_error form_error items ≡ None → KeepsKey items k
      → flag_bytes token ≡ value_or items (type_of attribute.Token) (flag_bytes k.token)
      → flag_bytes private ≡ value_or items (type_of attribute.Private) (flag_bytes k.private)
      → flag_bytes modifiable ≡ value_or items (type_of attribute.Modifiable)
      (flag_bytes k.modifiable)
      → flag_bytes copyable ≡ value_or items (type_of attribute.Copyable) (flag_bytes k.copyable)
      → flag_bytes destroyable
      ≡ value_or items (type_of attribute.Destroyable) (flag_bytes k.destroyable)
      → number_bytes (state_number state)
      ≡ value_or items (type_of attribute.KeyState) (number_bytes (state_number k.state))
      → key_items (changed_key items (record k {
        token = token;
        private = private;
        modifiable = modifiable;
        copyable = copyable;
        destroyable = destroyable;
        state = state;
      })) ≡ with_given items (key_items k)
  given-key formed kept t p m c d s =
      rw (
        t,
        p,
        m,
        c,
        d,
        s,
        given attribute.Sensitive k.sensitive refl,
        given attribute.Encrypt k.encrypt refl,
        given attribute.Decrypt k.decrypt refl,
        given attribute.Wrap k.wrap refl,
        given attribute.Unwrap k.unwrap refl,
        given attribute.Sign k.sign refl,
        given attribute.Verify k.verify refl,
        given attribute.Derive k.derive refl,
        given attribute.Extractable k.extractable refl,
        kept.class,
        kept.key_type,
        kept.value,
        kept.value_len,
        kept.local,
        kept.never_extractable,
        kept.always_sensitive,
        kept.generation,
      ) refl
    where
      given : (a : Attribute) (other : Bool) → form_of a ≡ form.Flag
          → flag_bytes (unwrap_or (flag_at items a) other)
          ≡ value_or items (type_of a) (flag_bytes other)
      given a other flag = flag-given items a other flag formed

-- a change gives a key nothing else
pub changed-key : (items : List Item) (k : Key) → template_error class.SecretKey purpose.Set
    items ≡ None
    → key_items (changed_key items k) ≡ with_given items (key_items k)
changed-key items k fine =
    let passes = template-passes class.SecretKey purpose.Set items fine in
    let set = passes.1 in
    given-key items k k.token k.private k.modifiable k.copyable k.destroyable k.state passes.0
    (record {
      class = keeps-unpermitted purpose.Set attribute.Class items _ refl set;
      key_type = key_type-kept items passes.0;
      value = keeps-unpermitted purpose.Set attribute.Value items _ refl set;
      value_len = keeps-unpermitted purpose.Set attribute.ValueLen items _ refl set;
      local = keeps-unpermitted purpose.Set attribute.Local items _ refl set;
      never_extractable = keeps-unpermitted purpose.Set attribute.NeverExtractable items _ refl set;
      always_sensitive = keeps-unpermitted purpose.Set attribute.AlwaysSensitive items _ refl set;
      generation = keeps-unpermitted purpose.Set attribute.KeyGenMechanism items _ refl set;
    })
    (sym (keeps-unpermitted purpose.Set attribute.Token items _ refl set))
    (sym (keeps-unpermitted purpose.Set attribute.Private items _ refl set))
    (sym (keeps-unpermitted purpose.Set attribute.Modifiable items _ refl set))
    (sym (keeps-unpermitted purpose.Set attribute.Copyable items _ refl set))
    (sym (keeps-unpermitted purpose.Set attribute.Destroyable items _ refl set))
    (sym (keeps-unpermitted purpose.Set attribute.KeyState items _ refl set))

-- nor a data object
pub changed-data : (items : List Item) (d : Data) → template_error class.Data purpose.Set
    items ≡ None
    → data_items (changed_data items d) ≡ with_given items (data_items d)
changed-data items d fine =
    rw (
      kept attribute.Class (number_bytes 0) refl,
      kept attribute.Token (flag_bytes d.token) refl,
      kept attribute.Private (flag_bytes d.private) refl,
      kept attribute.Modifiable (flag_bytes d.modifiable) refl,
      kept attribute.Copyable (flag_bytes d.copyable) refl,
      kept attribute.Destroyable (flag_bytes d.destroyable) refl,
    ) refl
  where
    kept : (a : Attribute) (value : List ℕ) → permission class.Data purpose.Set a ≡ Some false
        → keeps items a value
    kept a value read_only =
        ap (λ o. unwrap_or o value)
        (no-value class.Data purpose.Set a items read_only
        (template-passes class.Data purpose.Set items fine).1)
