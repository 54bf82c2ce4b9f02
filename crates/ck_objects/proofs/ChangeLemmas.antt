-- What a change of an object keeps
use Rattle.std.proofs.Common.{◌≡◌, ℕ, Bool, true, false, cond, not, ◌&&◌, ◌||◌, List, [], ◌∷◌}
use Rattle.std.proofs.Common.{Option, Some, None, refl, ap, ◌∙◌}
use Rattle.std.specs.Prelude.{◌==◌, find, option_and_then, option_map, unwrap_or}
use Rattle.std.proofs.lemmas.Bool.{not-false, eqb-true}
use Rattle.ck_types.specs.Numbers.{same_bytes}
use Rattle.ck_objects.specs.Attributes.{type_of, form_of, permission, flag_bytes}
use Rattle.ck_types.specs.Checks.{error_if, first_error, or_else}
use Rattle.ck_objects.specs.Templates.{value_at, value_or, flag_of, form_error, permission_error}
use Rattle.ck_objects.specs.Templates.{template_error, has_conflict, flag_at, class_of}
use Rattle.ck_objects.specs.Templates.{error_of_permission}
use Rattle.ck_objects.specs.Records.{with_given, is_set, changed_error, state_item, with_state}
use Rattle.ck_objects.specs.Records.{protections_of, exposes_key, makes_public, copied_error}
use Rattle.ck_objects.specs.declared.attributes.Attribute.{Attribute}
use Rattle.ck_objects.specs.declared.attributes.Attribute.TheVariants as attribute
use Rattle.ck_objects.specs.declared.attributes.Class.{Class}
use Rattle.ck_objects.specs.declared.attributes.Class.TheVariants as class
use Rattle.ck_objects.specs.declared.attributes.Purpose.{Purpose}
use Rattle.ck_objects.specs.declared.attributes.Purpose.TheVariants as purpose
use Rattle.ck_objects.specs.declared.forms.Form.TheVariants as form
use Rattle.ck_types.specs.declared.errors.RvError.{RvError}
use Rattle.ck_types.specs.declared.errors.RvError.TheVariants as rv_error
use Rattle.ck_objects.specs.declared.items.Item.{Item}
use Rattle.ck_objects.specs.declared.key_states.KeyState.{KeyState}
use Rattle.ck_objects.specs.declared.object_flags.Protections.{Protections}
use Rattle.ck_types.proofs.CheckLemmas.{or_else-none, error_if-none}
use Rattle.ck_objects.proofs.GivenLemmas.{no-value, no-value-refused, template-passes}

-- ---- the value of a type

module _ (template : List Item) (kind : ℕ) where
  given-first : (test : Bool) (item : Item) (items : List Item) → item.kind == kind ≡ test
      → value_at (with_given template items) kind
      ≡ option_map (value_or template kind) (value_at items kind)
      → option_map (λ (i : Item). i.value)
      (cond test
      (Some (record { kind = item.kind; value = value_or template item.kind item.value }))
      (find (λ (i : Item). i.kind == kind) (with_given template items)))
      ≡ option_map (value_or template kind)
      (option_map (λ (i : Item). i.value)
      (cond test (Some item) (find (λ (i : Item). i.kind == kind) items)))
  given-first true item items t later =
      ap (λ n. Some (value_or template n item.value)) (eqb-true item.kind kind t)
  given-first false item items t later = later

  -- is the template's where it gives one, else stays
  pub value_at-given : (items : List Item)
      → value_at (with_given template items) kind
      ≡ option_map (value_or template kind) (value_at items kind)
  value_at-given [] = refl
  value_at-given (item ∷ items) =
      given-first (item.kind == kind) item items refl (value_at-given items)

  -- a type that the template doesn't give keeps its value
  pub value_at-with_given : value_at template kind ≡ None → (items : List Item)
      → value_at (with_given template items) kind ≡ value_at items kind
  value_at-with_given none items =
      value_at-given items ∙ kept (value_at template kind) (value_at items kind) none
    where
      kept : (given was : Option (List ℕ)) → given ≡ None
          → option_map (λ value. unwrap_or given value) was ≡ was
      kept None None e = refl
      kept None (Some value) e = refl
      kept (Some other) was e = cc

-- ---- the flags that no change may give

changed-none : (c : Class) (protections : Protections) (template : List Item) (a : Attribute)
    → permission c purpose.Set a ≡ Some false
    → changed_error c protections template ≡ None → value_at template (type_of a) ≡ None
changed-none c protections template a read_only fine =
    let checks = (or_else-none (template_error c purpose.Set template) _ fine).0 in
    let unlike = (or_else-none (first_error form_error template) _ checks).1 in
    let conflict = error_if (has_conflict template) rv_error.TemplateInconsistent in
    let rest = (or_else-none conflict _ unlike).1 in
    no-value c purpose.Set a template read_only
    (or_else-none (first_error (permission_error c purpose.Set) template) None rest).0

flag-kept : (c : Class) (protections : Protections) (template items : List Item) (flag : Attribute)
    → permission c purpose.Set flag ≡ Some false
    → changed_error c protections template ≡ None
    → is_set (with_given template items) flag ≡ is_set items flag
flag-kept c protections template items flag read_only fine =
    ap (λ o. unwrap_or (option_and_then (flag_of (form_of flag)) o) false)
    (value_at-with_given template (type_of flag)
    (changed-none c protections template flag read_only fine) items)

token-fixed : (c : Class) → permission c purpose.Set attribute.Token ≡ Some false
token-fixed class.Data = refl
token-fixed class.SecretKey = refl

private-fixed : (c : Class) → permission c purpose.Set attribute.Private ≡ Some false
private-fixed class.Data = refl
private-fixed class.SecretKey = refl

-- a change keeps CKA_TOKEN
pub token-kept : (c : Class) (protections : Protections) (template items : List Item)
    → changed_error c protections template ≡ None
    → is_set (with_given template items) attribute.Token ≡ is_set items attribute.Token
token-kept c protections template items fine =
    flag-kept c protections template items attribute.Token (token-fixed c) fine

-- and CKA_PRIVATE
pub private-kept : (c : Class) (protections : Protections) (template items : List Item)
    → changed_error c protections template ≡ None
    → is_set (with_given template items) attribute.Private ≡ is_set items attribute.Private
private-kept c protections template items fine =
    flag-kept c protections template items attribute.Private (private-fixed c) fine

-- ---- a key in another state

flag-in_state : (s : KeyState) (flag : Attribute) (items : List Item)
    → value_at (state_item s ∷ []) (type_of flag) ≡ None
    → is_set (with_state s items) flag ≡ is_set items flag
flag-in_state s flag items none =
    ap (λ o. unwrap_or (option_and_then (flag_of (form_of flag)) o) false)
    (value_at-with_given (state_item s ∷ []) (type_of flag) none items)

-- keeps CKA_TOKEN
pub token-in_state : (s : KeyState) (items : List Item)
    → is_set (with_state s items) attribute.Token ≡ is_set items attribute.Token
token-in_state s items = flag-in_state s attribute.Token items refl

-- and CKA_PRIVATE
pub private-in_state : (s : KeyState) (items : List Item)
    → is_set (with_state s items) attribute.Private ≡ is_set items attribute.Private
private-in_state s items = flag-in_state s attribute.Private items refl

-- ---- what protects a key

-- a key that was sensitive is sensitive after this change, one that wasn't extractable isn't, and
-- what the token says of all its past stays
pub record KeepsProtection (before after : List Item) : Type 0 where
  pub sensitive : is_set before attribute.Sensitive ≡ true
      → is_set after attribute.Sensitive ≡ true
  pub extractable : is_set before attribute.Extractable ≡ false
      → is_set after attribute.Extractable ≡ false
  pub always_sensitive : is_set after attribute.AlwaysSensitive
      ≡ is_set before attribute.AlwaysSensitive
  pub never_extractable : is_set after attribute.NeverExtractable
      ≡ is_set before attribute.NeverExtractable

abbrev flag_in_value : Option (List ℕ) → Bool → Bool
flag_in_value value other = unwrap_or (option_and_then (flag_of form.Flag) value) other

true-given : (given was : Option (List ℕ)) → not (flag_in_value given true) ≡ false
    → flag_in_value was false ≡ true
    → flag_in_value (option_map (unwrap_or given) was) false ≡ true
true-given given None g e = cc
true-given None (Some value) g e = e
true-given (Some other) (Some value) g e = not-false (same_bytes other (flag_bytes true)) g

extractable-given : (given was : Option (List ℕ)) → flag_in_value given false ≡ false
    → flag_in_value was false ≡ false
    → flag_in_value (option_map (unwrap_or given) was) false ≡ false
extractable-given given None g e = refl
extractable-given None (Some value) g e = e
extractable-given (Some other) (Some value) g e = g

exposes-neither : (sensitive hides extractable shows : Bool)
    → ((sensitive && hides) || (not extractable && shows)) ≡ false
    → (sensitive ≡ true → hides ≡ false) × (extractable ≡ false → shows ≡ false)
exposes-neither true true extractable shows e = cc
exposes-neither true false true shows e = ((λ t. refl), (λ t. cc))
exposes-neither true false false shows e = ((λ t. refl), (λ t. e))
exposes-neither false hides true shows e = ((λ t. cc), (λ t. cc))
exposes-neither false hides false shows e = ((λ t. cc), (λ t. e))

-- no template of this purpose may give the attribute
IsFixed : Purpose → Attribute → Type 0
IsFixed p a = (c : Class) → (error : RvError)
    × (error_of_permission (permission c p a) ≡ Some error)

flag-fixed : (c : Class) (p : Purpose) (template items : List Item) (a : Attribute) → IsFixed p a
    → first_error (permission_error c p) template ≡ None
    → is_set (with_given template items) a ≡ is_set items a
unfolding IsFixed
flag-fixed c p template items a fixed fine =
    let refused = fixed c in
    ap (λ o. unwrap_or (option_and_then (flag_of (form_of a)) o) false)
    (value_at-with_given template (type_of a)
    (no-value-refused c p a template refused.0 refused.1 fine) items)

-- a template of this purpose that passes its checks exposes no key, and keeps what protects it
template-keeps : (p : Purpose) (template items : List Item) (later : Option RvError)
    → IsFixed p attribute.AlwaysSensitive → IsFixed p attribute.NeverExtractable
    → or_else (template_error (class_of items) p template)
    (or_else
    (error_if (exposes_key (protections_of items) template) rv_error.AttributeReadOnly) later)
    ≡ None
    → KeepsProtection items (with_given template items)
template-keeps p template items later always never passes =
    let c = class_of items in
    let checks = or_else-none (template_error c p template) _ passes in
    let fine = (template-passes c p template checks.0).1 in
    let exposes = error_if (exposes_key (protections_of items) template)
    rv_error.AttributeReadOnly in
    let parts = exposes-neither (is_set items attribute.Sensitive)
    (not (unwrap_or (flag_at template attribute.Sensitive) true))
    (is_set items attribute.Extractable)
    (unwrap_or (flag_at template attribute.Extractable) false)
    (error_if-none _ _ (or_else-none exposes later checks.1).0) in
    let sensitive = type_of attribute.Sensitive in
    let extractable = type_of attribute.Extractable in
    record {
      sensitive = λ e. ap (λ o. flag_in_value o false) (value_at-given template sensitive items)
          ∙ true-given (value_at template sensitive) (value_at items sensitive) (parts.0 e) e;
      extractable = λ e.
          ap (λ o. flag_in_value o false) (value_at-given template extractable items)
          ∙ extractable-given (value_at template extractable) (value_at items extractable)
          (parts.1 e) e;
      always_sensitive = flag-fixed c p template items attribute.AlwaysSensitive always fine;
      never_extractable = flag-fixed c p template items attribute.NeverExtractable never fine;
    }

-- one that data objects don't have, and that is read-only in keys
fixed : (p : Purpose) (a : Attribute)
    → error_of_permission (permission class.Data p a) ≡ Some rv_error.AttributeTypeInvalid
    → error_of_permission (permission class.SecretKey p a) ≡ Some rv_error.AttributeReadOnly
    → IsFixed p a
unfolding IsFixed
fixed p a none never class.Data = (rv_error.AttributeTypeInvalid, none)
fixed p a none never class.SecretKey = (rv_error.AttributeReadOnly, never)

-- a copy keeps it
pub copied-protection : (template items : List Item)
    → copied_error (class_of items) (protections_of items) template ≡ None
    → KeepsProtection items (with_given template items)
copied-protection template items fine =
    template-keeps purpose.Copy template items _ (fixed _ _ refl refl) (fixed _ _ refl refl) fine

second-false : (first second : Bool) → (first && second) ≡ false → first ≡ true → second ≡ false
second-false true second e t = e
second-false false second e t = cc

-- and one of a private object is private
pub copied-private : (template items : List Item)
    → copied_error (class_of items) (protections_of items) template ≡ None
    → is_set items attribute.Private ≡ true
    → is_set (with_given template items) attribute.Private ≡ true
copied-private template items fine was =
    let private = type_of attribute.Private in
    let protections = protections_of items in
    let exposes = error_if (exposes_key protections template) rv_error.AttributeReadOnly in
    let public = error_if (makes_public protections template) rv_error.TemplateInconsistent in
    let rest = (or_else-none (template_error (class_of items) purpose.Copy template) _ fine).1 in
    let stays = error_if-none (makes_public protections template) rv_error.TemplateInconsistent
    (or_else-none public None (or_else-none exposes _ rest).1).0 in
    ap (λ o. flag_in_value o false) (value_at-given template private items)
    ∙ true-given (value_at template private) (value_at items private)
    (second-false (is_set items attribute.Private) _ stays was) was

-- so does a change
pub changed-protection : (template items : List Item)
    → changed_error (class_of items) (protections_of items) template ≡ None
    → KeepsProtection items (with_given template items)
changed-protection template items fine =
    template-keeps purpose.Set template items _ (fixed _ _ refl refl) (fixed _ _ refl refl) fine

-- and another state
pub protection-in_state : (s : KeyState) (items : List Item)
    → KeepsProtection items (with_state s items)
protection-in_state s items = record {
  sensitive = λ e. flag-in_state s attribute.Sensitive items refl ∙ e;
  extractable = λ e. flag-in_state s attribute.Extractable items refl ∙ e;
  always_sensitive = flag-in_state s attribute.AlwaysSensitive items refl;
  never_extractable = flag-in_state s attribute.NeverExtractable items refl;
}
