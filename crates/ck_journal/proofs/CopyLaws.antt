-- What a copy has of its source
use Rattle.std.proofs.Common.{◌≡◌, ℕ, Bool, true, false, cond, not, ◌&&◌, ◌||◌, List, [], ◌∷◌}
use Rattle.std.proofs.Common.{Option, Some, None, refl, sym, ap, ◌∙◌, subst}
use Rattle.std.specs.Prelude.{◌==◌, find, option_and_then, option_map, unwrap_or}
use Rattle.std.proofs.lemmas.Bool.{eqb-true, false≢true, not-false}
use Rattle.std.proofs.lemmas.Option.{none-some, same_Some}
use Rattle.ck_types.specs.Checks.{first_error}
use Rattle.ck_types.specs.Numbers.{number_bytes, same_bytes}
use Rattle.ck_objects.specs.Attributes.{attribute_of, type_of}
use Rattle.ck_objects.specs.KeyStates.{key_states, is_destroyed, state_number}
use Rattle.ck_objects.specs.Records.{with_given, is_set, is_key, is_key_class}
use Rattle.ck_objects.specs.Records.{protections_of, copied_error, state_in}
use Rattle.ck_objects.specs.Templates.{value_at, value_or, class_of, error_of_permission}
use Rattle.ck_types.specs.TokenLimits.{Ranges}
use Rattle.ck_objects.specs.declared.attributes.Attribute.{Attribute}
use Rattle.ck_objects.specs.declared.attributes.Attribute.TheVariants as attribute
use Rattle.ck_objects.specs.declared.attributes.Class.{Class}
use Rattle.ck_objects.specs.declared.attributes.Class.TheVariants as class
use Rattle.ck_types.specs.declared.errors.RvError.{RvError}
use Rattle.ck_types.specs.declared.errors.RvError.TheVariants as rv_error
use Rattle.ck_objects.specs.declared.items.Item.{Item}
use Rattle.std.specs.Option.{option_map_or}
use Rattle.ck_objects.proofs.GivenLemmas.{attribute_of-type_of, copy-passes}
use Rattle.ck_types.proofs.CheckLemmas.{error_if-none, or_else-none}
use Rattle.ck_journal.specs.declared.calls.Call.TheVariants as call
use Rattle.ck_journal.specs.declared.calls.Entry.{Entry}
use Rattle.ck_journal.specs.Answers.{copy_error, object_error, prohibited_error, session_error}
use Rattle.ck_journal.specs.Histories.{History, ◌◁◌}
use Rattle.ck_journal.specs.KeyLaws.{Copies, UncopyableObjectsAreNotCopied, CopiesStayHidden}
use Rattle.ck_journal.specs.KeyLaws.{CopiesKeepTheRest, copies_give}
use Rattle.ck_journal.specs.Laws.{IsSoundHistory}
use Rattle.ck_journal.specs.Objects.{creates, creation_attributes, attributes_named}
use Rattle.ck_journal.proofs.LegalLemmas.{passed-done, object-found, last-passes, later-passes}
use Rattle.ck_journal.proofs.ObjectMoves.{object_at-created}
use Rattle.ck_journal.proofs.ProtectionLaws.{copies-sensitive, copies-unextractable}

-- ---- what a template doesn't give

module _ (template : List Item) (kind : ℕ) (none : value_at template kind ≡ None) where
  first-kept : (same : Bool) (item : Item) (given was : Option Item) → item.kind == kind ≡ same
      → option_map (λ (i : Item). i.value) given ≡ option_map (λ (i : Item). i.value) was
      → option_map (λ (i : Item). i.value)
      (cond same
      (Some (record { kind = item.kind; value = value_or template item.kind item.value }))
      given)
      ≡ option_map (λ (i : Item). i.value) (cond same (Some item) was)
  first-kept true item given was t later =
      ap (λ n. Some (value_or template n item.value)) (eqb-true item.kind kind t)
      ∙ ap (λ o. Some (unwrap_or o item.value)) none
  first-kept false item given was t later = later

  -- a type of which the template gives no value keeps its value
  pub value-kept : (items : List Item)
      → value_at (with_given template items) kind ≡ value_at items kind
  value-kept [] = refl
  value-kept (item ∷ items) =
      first-kept (item.kind == kind) item
      (find (λ (i : Item). i.kind == kind) (with_given template items))
      (find (λ (i : Item). i.kind == kind) items) refl (value-kept items)

-- a template gives no value of an attribute that the check of its items refuses
module _ (gives : Attribute → Option Bool) (a : Attribute) (read_only : gives a ≡ Some false) where
  abbrev check : Item → Option RvError
  check item = error_of_permission (option_and_then gives (attribute_of item.kind))

  other-type : (item : Item) → check item ≡ None → item.kind ≡ type_of a → ⊥
  other-type item p same =
      let refused : error_of_permission (gives a) ≡ None =
      sym (ap (λ o. error_of_permission (option_and_then gives o))
      (ap attribute_of same ∙ attribute_of-type_of a)) ∙ p in
      none-some rv_error.AttributeReadOnly (sym (sym (ap error_of_permission read_only) ∙ refused))

  pub ungiven : (template : List Item) → first_error check template ≡ None
      → value_at template (type_of a) ≡ None
  ungiven [] p = refl
  ungiven (item ∷ items) p =
      let parts = or_else-none (check item) (first_error check items) p in
      cases (item.kind == type_of a) refl (other-type item parts.0) (ungiven items parts.1)
    where
      cases : (same : Bool) → item.kind == type_of a ≡ same → (item.kind ≡ type_of a → ⊥)
          → value_at items (type_of a) ≡ None
          → option_map (λ (i : Item). i.value)
          (cond same (Some item) (find (λ (i : Item). i.kind == type_of a) items)) ≡ None
      cases true t other later = absurd (other (eqb-true item.kind (type_of a) t))
      cases false t other later = later

-- ---- a copy

-- a copy has what a template that passes its checks gives, and else what its source has, which may
-- be copied
record IsCopy (source copy : List Item) : Type 0 where
  template : List Item
  given : copy ≡ with_given template source
  copyable : is_set source attribute.Copyable ≡ true
  fine : copied_error (class_of source) (protections_of source) template ≡ None

is-copy : (limits : Ranges) (e : Entry) (h : History) → IsSoundHistory limits (e ◁ h)
    → (source copy : List Item) → Copies e h source copy → IsCopy source copy
is-copy limits e h good source copy made =
    let did = call.CopyObject made.session made.handle made.template in
    let p = passed-done limits e h good.legal did made.copies in
    let found = object-found (attributes_named h made.handle) _ rv_error.ObjectHandleInvalid
    (last-passes (object_error h made.handle _)
    (later-passes (session_error h made.session) _ p)) in
    let same : found.0 ≡ source = same_Some found.0 source (sym found.1 ∙ made.named) in
    let checks = subst
    (λ items. copy_error limits h made.session made.template.items items ≡ None) same found.2 in
    let first = or_else-none (prohibited_error attribute.Copyable source) _ checks in
    let given = object_at-created e h (ap creates made.copies)
    ∙ ap (λ d. Some (creation_attributes d (attributes_named h))) made.copies
    ∙ ap (λ o. Some (with_given made.template.items (unwrap_or o []))) made.named in
    record {
      template = made.template.items;
      given = same_Some copy _ (sym made.created ∙ given);
      copyable = not-false (is_set source attribute.Copyable)
          (error_if-none (not (is_set source attribute.Copyable)) rv_error.ActionProhibited
          first.0);
      fine = (or_else-none
          (copied_error (class_of source) (protections_of source) made.template.items) _
          first.1).0;
    }

pub uncopyable-not_copied : UncopyableObjectsAreNotCopied
uncopyable-not_copied limits e h good source copy made =
    (is-copy limits e h good source copy made).copyable

pub copies-keep : CopiesKeepTheRest
copies-keep limits e h good source copy made a read_only =
    let is = is-copy limits e h good source copy made in
    let passes = copy-passes (class_of source) (protections_of source) is.template is.fine in
    ap (λ items. value_at items (type_of a)) is.given
    ∙ value-kept is.template (type_of a)
    (ungiven (copies_give (class_of source)) a read_only is.template passes.1) source

-- ---- what may be revealed of it

class-fixed : (c : Class) → copies_give c attribute.Class ≡ Some false
class-fixed class.Data = refl
class-fixed class.SecretKey = refl

pub key-class : (c : Class) → is_key_class c ≡ true → c ≡ class.SecretKey
key-class class.SecretKey t = refl
key-class class.Data t = cc

-- only a key's value is ever hidden
hidden-key : (key others : Bool) → (not key || others) ≡ false → (key ≡ true) × (others ≡ false)
hidden-key true others e = (refl, e)
hidden-key false others e = cc

-- what hides it: a key that is sensitive, or not extractable, or destroyed
hides : (s x d s' x' : Bool) → (s ≡ true → s' ≡ true) → (x ≡ false → x' ≡ false)
    → (not s && x && not d) ≡ false → (not s' && x' && not d) ≡ false
hides s x d true x' sensitive unextractable e = refl
hides s x d false false sensitive unextractable e = refl
hides s x true false true sensitive unextractable e = refl
hides true x false false true sensitive unextractable e = absurd (false≢true (sensitive refl))
hides false false false false true sensitive unextractable e =
    absurd (false≢true (sym (unextractable refl)))
hides false true false false true sensitive unextractable e = cc

pub copies-hidden : CopiesStayHidden
copies-hidden limits e h good source copy made hidden =
    let keeps = copies-keep limits e h good source copy made in
    let same_class : class_of copy ≡ class_of source =
    ap (λ o. cond (same_bytes (unwrap_or o []) (number_bytes 4)) class.SecretKey class.Data)
    (keeps attribute.Class (class-fixed (class_of source))) in
    let key = hidden-key (is_key source) _ hidden in
    let read_only = subst (λ c. copies_give c attribute.KeyState ≡ Some false)
    (sym (key-class (class_of source) key.0)) refl in
    let same_state : state_in copy ≡ state_in source =
    ap (option_and_then
    (λ value. find (λ s. same_bytes (number_bytes (state_number s)) value) key_states))
    (keeps attribute.KeyState read_only) in
    let revealable = λ (c : Class) (destroyed : Bool). not (is_key_class c)
    || (not (is_set copy attribute.Sensitive) && is_set copy attribute.Extractable
    && not destroyed) in
    ap (λ c. revealable c (option_map_or is_destroyed (state_in copy) false))
    (same_class ∙ key-class (class_of source) key.0)
    ∙ ap (λ o. revealable class.SecretKey (option_map_or is_destroyed o false)) same_state
    ∙ hides (is_set source attribute.Sensitive) (is_set source attribute.Extractable)
    (option_map_or is_destroyed (state_in source) false) (is_set copy attribute.Sensitive)
    (is_set copy attribute.Extractable) (copies-sensitive limits e h good source copy made)
    (copies-unextractable limits e h good source copy made) key.1
