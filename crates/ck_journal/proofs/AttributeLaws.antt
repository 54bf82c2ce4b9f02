-- What objects keep of their attributes over calls and cuts, and that keys don't go back
use Rattle.std.proofs.Common.{◌≡◌, ℕ, ◌≤◌, Bool, true, false, cond, not, ◌&&◌, ◌||◌, List, [], ◌∷◌}
use Rattle.std.proofs.Common.{Option, Some, None, refl, sym, ap, ◌∙◌, subst, arith}
use Rattle.std.specs.Prelude.{◌==◌, find, is_some, option_and_then, option_map, unwrap_or}
use Rattle.std.specs.Option.{option_map_or}
use Rattle.std.proofs.lemmas.Bool.{eqb-true, ne_eqb, not-false, false≢true}
use Rattle.std.proofs.lemmas.Option.{same_Some}
use Rattle.ck_types.specs.Checks.{error_if, first_error, first_of, or_else}
use Rattle.ck_types.specs.Numbers.{number_bytes, same_bytes}
use Rattle.ck_types.specs.TokenLimits.{Ranges}
use Rattle.ck_types.specs.declared.errors.RvError.TheVariants as rv_error
use Rattle.ck_types.proofs.CheckLemmas.{error_if-none, or_else-none}
use Rattle.ck_objects.specs.Attributes.{type_of, form_of, attribute_of}
use Rattle.ck_objects.specs.KeyStates.{is_destroyed, key_states, may_become, state_number}
use Rattle.ck_objects.specs.Records.{with_given, with_state, is_set, is_key_class, state_in}
use Rattle.ck_objects.specs.Records.{state_item, protections_of, changed_error}
use Rattle.ck_objects.specs.Records.{exposes_key}
use Rattle.ck_objects.specs.Templates.{class_of, flag_of, form_error, has_conflict, value_at}
use Rattle.ck_objects.specs.Templates.{value_or}
use Rattle.ck_objects.specs.declared.attributes.Attribute.{Attribute}
use Rattle.ck_objects.specs.declared.attributes.Attribute.TheVariants as attribute
use Rattle.ck_objects.specs.declared.attributes.Class.{Class}
use Rattle.ck_objects.specs.declared.attributes.Class.TheVariants as class
use Rattle.ck_objects.specs.declared.items.Item.{Item}
use Rattle.ck_objects.specs.declared.key_states.KeyState.{KeyState}
use Rattle.ck_objects.specs.declared.key_states.KeyState.TheVariants as state
use Rattle.ck_types.specs.declared.errors.RvError.{RvError}
use Rattle.ck_objects.proofs.ChangeLemmas.{value_at-given, value_at-with_given}
use Rattle.ck_objects.proofs.GivenLemmas.{attribute_of-type_of}
use Rattle.ck_journal.specs.declared.calls.Entry.{Entry}
use Rattle.ck_journal.specs.Answers.{transition_error}
use Rattle.ck_journal.specs.Events.{Event, after_events, AreSoundEvents}
use Rattle.ck_journal.specs.Histories.{History, ◌◁◌}
use Rattle.ck_journal.specs.Laws.{IsSoundHistory}
use Rattle.ck_journal.specs.LawsOverEvents.{HiddenStays, KeyStatesNeverGoBack, PrivateStays, phase}
use Rattle.ck_journal.specs.LawsOverEvents.{ReadOnlyAttributesStay, UnmodifiableObjectsStay}
use Rattle.ck_journal.specs.LawsOverEvents.{is_read_only}
use Rattle.ck_journal.specs.Objects.{object_at}
use Rattle.ck_journal.proofs.EventLemmas.{events-keep}
use Rattle.ck_journal.proofs.LegalLemmas.{last-passes, later-passes, object_moves}
use Rattle.ck_journal.proofs.NameLemmas.{found-named}
use Rattle.ck_journal.proofs.ProtectionLaws.{fronts-keep}

-- ---- what a value has passed

module _ (check : Item → Option RvError) (kind : ℕ) (value : List ℕ) where
  passes-first : (same : Bool) (item : Item) (found : Option Item) (later : Option RvError)
      → item.kind == kind ≡ same → or_else (check item) later ≡ None
      → (later ≡ None → option_map (λ (i : Item). i.value) found ≡ Some value
      → check (record { kind = kind; value = value }) ≡ None)
      → option_map (λ (i : Item). i.value) (cond same (Some item) found) ≡ Some value
      → check (record { kind = kind; value = value }) ≡ None
  passes-first true item found later t fine rest e =
      let here = (or_else-none (check item) later fine).0 in
      subst (λ v. check (record { kind = kind; value = v }) ≡ None)
      (same_Some item.value value e)
      (subst (λ n. check (record { kind = n; value = item.value }) ≡ None)
      (eqb-true item.kind kind t) here)
  passes-first false item found later t fine rest e =
      rest (or_else-none (check item) later fine).1 e

  -- what the items give passes a check that each item passes
  given-passes : (items : List Item) → first_error check items ≡ None
      → value_at items kind ≡ Some value → check (record { kind = kind; value = value }) ≡ None
  given-passes [] fine e = cc
  given-passes (item ∷ items) fine e =
      passes-first (item.kind == kind) item (find (λ (i : Item). i.kind == kind) items)
      (first_error check items) refl fine (given-passes items) e

-- the same of a template that changes an object, whose items pass this check among others
change-passes : (check : Item → Option RvError) (items template : List Item) (kind : ℕ)
    (value : List ℕ)
    → first_of (
    first_of (
    first_error form_error template
    ∷ error_if (has_conflict template) rv_error.TemplateInconsistent
    ∷ first_error check template
    ∷ [])
    ∷ error_if (exposes_key (protections_of items) template) rv_error.AttributeReadOnly
    ∷ []) ≡ None
    → value_at template kind ≡ Some value → check (record { kind = kind; value = value }) ≡ None
change-passes check items template kind value fine e =
    let conflict = error_if (has_conflict template) rv_error.TemplateInconsistent in
    let exposes =
    error_if (exposes_key (protections_of items) template) rv_error.AttributeReadOnly in
    let checks = or_else-none
    (first_of (first_error form_error template ∷ conflict ∷ first_error check template ∷ []))
    (first_of (exposes ∷ [])) fine in
    given-passes check kind value template
    (last-passes (first_error check template)
    (later-passes conflict _ (later-passes (first_error form_error template) _ checks.0))) e

-- no template that changes an object gives the attribute
abbrev is_never_given : Class → Attribute → Bool
is_never_given c attribute.KeyState = true
is_never_given c other = is_read_only c other

read_only-never : (c : Class) (a : Attribute) → is_read_only c a ≡ true → is_never_given c a ≡ true
read_only-never c attribute.KeyState t = refl
read_only-never c other t = t

-- what is refused isn't let through
refused-none : (refused : Bool) (error : Option RvError) → refused ≡ true → error ≡ None
    → (not refused || is_some error) ≡ true → ⊥
refused-none true None t none always = cc
refused-none true (Some error) t none always = cc
refused-none false error t none always = cc

module _ (items template : List Item) where
  given-refused : (c : Class) (a : Attribute) (value : List ℕ)
      → changed_error c (protections_of items) template ≡ None
      → value_at template (type_of a) ≡ Some value → is_never_given c a ≡ true → ⊥
  given-refused class.Data attribute.Class value fine e t =
      refused-none true _ t
      (change-passes _ items template (type_of attribute.Class) value fine e) refl
  given-refused class.Data other value fine e t =
      refused-none (is_never_given class.Data other) _ t
      (change-passes _ items template (type_of other) value fine e) refl
  given-refused class.SecretKey attribute.Class value fine e t =
      refused-none true _ t
      (change-passes _ items template (type_of attribute.Class) value fine e) refl
  given-refused class.SecretKey other value fine e t =
      refused-none (is_never_given class.SecretKey other) _ t
      (change-passes _ items template (type_of other) value fine e) refl

  not-given : (c : Class) (a : Attribute) → is_never_given c a ≡ true
      → changed_error c (protections_of items) template ≡ None
      → value_at template (type_of a) ≡ None
  not-given c a t fine = cases (value_at template (type_of a)) refl
    where
      cases : (o : Option (List ℕ)) → value_at template (type_of a) ≡ o → o ≡ None
      cases None e = refl
      cases (Some value) e = absurd (given-refused c a value fine e t)

-- another state gives only the state
state-gives : (s : KeyState) (kind : ℕ) → (kind ≡ type_of attribute.KeyState → ⊥)
    → value_at (state_item s ∷ []) kind ≡ None
state-gives s kind other =
    ap (λ t. option_map (λ (i : Item). i.value) (cond t (Some (state_item s)) None))
    (ne_eqb (type_of attribute.KeyState) kind (λ same. other (sym same)))

-- ---- what an entry keeps of an object that it doesn't end, calls and cuts keep

module _ (limits : Ranges) (Keeps : List Item → List Item → Type 0)
    (itself : (a : List Item) → Keeps a a)
    (both : (a b c : List Item) → Keeps a b → Keeps b c → Keeps a c)
    (changed : (template a : List Item) → is_set a attribute.Modifiable ≡ true
    → changed_error (class_of a) (protections_of a) template ≡ None
    → Keeps a (with_given template a))
    (moved : (s : KeyState) (a : List Item) → transition_error (state_in a) (Some s) ≡ None
    → Keeps a (with_state s a)) where
  entry-keeps : (e : Entry) (h : History) → IsSoundHistory limits (e ◁ h) → (n : ℕ)
      (a b : List Item) → object_at h n ≡ Some a → object_at (e ◁ h) n ≡ Some b → Keeps a b
  entry-keeps e h good n a b was =
      let named-same =
      λ (handle : ℕ) (found : List Item).
      found-named limits good.in_range h good.sound good.legal.1 handle n a found was in
      object_moves limits h n a (Keeps a) (itself a)
      (λ object found template is named modifiable fine.
      let same = named-same object found named is in
      changed template a (subst (λ items. is_set items attribute.Modifiable ≡ true) same modifiable)
      (subst (λ items. changed_error (class_of items) (protections_of items) template ≡ None)
      same fine))
      (λ key found s is named fine.
      moved s a
      (subst (λ items. transition_error (state_in items) (Some s) ≡ None)
      (named-same key found named is) fine))
      e good.sound good.legal b was

  later-keeps : (h : History) (later : List Event) → AreSoundEvents limits h later
      → (n : ℕ) (a b : List Item)
      → object_at h n ≡ Some a → object_at (after_events h later) n ≡ Some b → Keeps a b
  later-keeps = events-keep limits Keeps itself both entry-keeps

-- ---- read-only attributes

abbrev KeepsReadOnly : List Item → List Item → Type 0
KeepsReadOnly before now =
    (a : Attribute) → is_read_only (class_of before) a ≡ true
    → value_at now (type_of a) ≡ value_at before (type_of a)

class-kept : (a b : List Item) → KeepsReadOnly a b → class_of b ≡ class_of a
class-kept a b kept =
    ap (λ o. cond (same_bytes (unwrap_or o []) (number_bytes 4)) class.SecretKey class.Data)
    (kept attribute.Class refl)

same-attribute : (a b : Attribute) → type_of a ≡ type_of b → a ≡ b
same-attribute a b e =
    same_Some a b (sym (attribute_of-type_of a) ∙ ap attribute_of e ∙ attribute_of-type_of b)

read_only-no_state : (c : Class) (a : Attribute) → is_read_only c a ≡ true
    → type_of a ≡ type_of attribute.KeyState → ⊥
read_only-no_state c a t same =
    false≢true (sym (ap (is_read_only c) (same-attribute a attribute.KeyState same)) ∙ t)

pub read_only-stays : ReadOnlyAttributesStay
read_only-stays limits =
    later-keeps limits KeepsReadOnly (λ a x t. refl)
    (λ a b c first later x t.
    later x (subst (λ cl. is_read_only cl x ≡ true) (sym (class-kept a b first)) t) ∙ first x t)
    (λ template a modifiable fine x t.
    value_at-with_given template (type_of x)
    (not-given a template (class_of a) x (read_only-never (class_of a) x t) fine)
    a)
    (λ s a fine x t.
    value_at-with_given (state_item s ∷ []) (type_of x)
    (state-gives s (type_of x) (read_only-no_state (class_of a) x t)) a)

-- one of them is CKA_PRIVATE
pub private-stays : PrivateStays
private-stays limits h later sound n a b was now =
    ap (λ o. unwrap_or (option_and_then (flag_of (form_of attribute.Private)) o) false)
    (read_only-stays limits h later sound n a b was now attribute.Private refl)

-- ---- objects that may not be modified

abbrev KeepsUnmodifiable : List Item → List Item → Type 0
KeepsUnmodifiable before now =
    is_set before attribute.Modifiable ≡ false → (kind : ℕ)
    → (kind ≡ type_of attribute.KeyState → ⊥) → value_at now kind ≡ value_at before kind

unmodifiable-kept : (a b : List Item) → KeepsUnmodifiable a b
    → is_set a attribute.Modifiable ≡ false → is_set b attribute.Modifiable ≡ false
unmodifiable-kept a b kept f =
    ap (λ o. unwrap_or (option_and_then (flag_of (form_of attribute.Modifiable)) o) false)
    (kept f (type_of attribute.Modifiable) (λ same. omega (arith, same)))
    ∙ f

pub unmodifiable-stays : UnmodifiableObjectsStay
unmodifiable-stays limits =
    later-keeps limits KeepsUnmodifiable (λ a f kind other. refl)
    (λ a b c first later f kind other.
    later (unmodifiable-kept a b first f) kind other ∙ first f kind other)
    (λ template a modifiable fine f kind other. absurd (false≢true (sym f ∙ modifiable)))
    (λ s a fine f kind other.
    value_at-with_given (state_item s ∷ []) kind (state-gives s kind other) a)

-- ---- states of keys

abbrev state_of_value : Option (List ℕ) → Option KeyState
state_of_value value =
    option_and_then (λ bytes. find (λ s. same_bytes (number_bytes (state_number s)) bytes)
    key_states) value

-- a key that has a state has one after this, of no earlier phase
abbrev KeepsState : List Item → List Item → Type 0
KeepsState before now =
    (s : KeyState) → state_in before ≡ Some s
    → (t : KeyState) × (state_in now ≡ Some t) × (phase s ≤ phase t)

phase-rises : (s t : KeyState) → may_become s t ≡ true → phase s ≤ phase t
phase-rises state.PreActivation t m = omega arith
phase-rises state.Active state.PreActivation m = cc
phase-rises state.Active other m = omega arith
phase-rises state.Suspended state.PreActivation m = cc
phase-rises state.Suspended other m = omega arith
phase-rises state.Deactivated state.Compromised m = omega arith
phase-rises state.Deactivated state.Destroyed m = omega arith
phase-rises state.Deactivated other m = cc
phase-rises state.Compromised state.Destroyed m = omega arith
phase-rises state.Compromised other m = cc
phase-rises state.Destroyed other m = cc

state-read : (s : KeyState) → state_of_value (Some (number_bytes (state_number s))) ≡ Some s
state-read state.PreActivation = refl
state-read state.Active = refl
state-read state.Deactivated = refl
state-read state.Compromised = refl
state-read state.Destroyed = refl
state-read state.Suspended = refl

-- where there is a state, another one takes its place
state-given : (t s : KeyState) (value : Option (List ℕ)) → state_of_value value ≡ Some s
    → state_of_value
    (option_map (value_or (state_item t ∷ []) (type_of attribute.KeyState)) value)
    ≡ Some t
state-given t s None is = cc
state-given t s (Some value) is = state-read t

state-changed : (template a : List Item)
    → changed_error (class_of a) (protections_of a) template ≡ None
    → KeepsState a (with_given template a)
state-changed template a fine s is =
    let kept = value_at-with_given template (type_of attribute.KeyState)
    (not-given a template (class_of a) attribute.KeyState refl fine) a in
    (s, ap state_of_value kept ∙ is, omega arith)

state-moved : (t : KeyState) (a : List Item) → transition_error (state_in a) (Some t) ≡ None
    → KeepsState a (with_state t a)
state-moved t a fine s is =
    let may = not-false (option_map_or (λ s. may_become s t) (state_in a) false)
    (error_if-none _ rv_error.ActionProhibited fine) in
    let kind = type_of attribute.KeyState in (
      t,
      ap state_of_value (value_at-given (state_item t ∷ []) kind a)
          ∙ state-given t s (value_at a kind) is,
      phase-rises s t (ap (λ o. option_map_or (λ s. may_become s t) o false) (sym is) ∙ may),
    )

later-state : (limits : Ranges) (h : History) (later : List Event)
    → AreSoundEvents limits h later → (n : ℕ) (a b : List Item)
    → object_at h n ≡ Some a → object_at (after_events h later) n ≡ Some b → KeepsState a b
later-state limits =
    later-keeps limits KeepsState (λ a s is. (s, is, omega arith))
    (λ a b c first later s is.
    let next = first s is in
    let last = later next.0 next.1 in
    (last.0, last.1, omega (arith, next.2, last.2)))
    (λ template a modifiable fine. state-changed template a fine)
    state-moved

pub states-rise : KeyStatesNeverGoBack
states-rise limits h later sound n a b was now s t is then =
    let kept = later-state limits h later sound n a b was now s is in
    subst (λ t. phase s ≤ phase t) (same_Some kept.0 t (sym kept.1 ∙ then)) kept.2

-- ---- hidden values

destroyed-stays : (s t : KeyState) → phase s ≤ phase t → is_destroyed s ≡ true
    → is_destroyed t ≡ true
destroyed-stays state.Destroyed state.Destroyed below d = refl
destroyed-stays state.Destroyed other below d = absurd (omega (arith, below))
destroyed-stays other t below d = cc

destroyed-kept : (a b : List Item) → KeepsState a b
    → option_map_or is_destroyed (state_in a) false ≡ true
    → option_map_or is_destroyed (state_in b) false ≡ true
destroyed-kept a b kept d = cases (state_in a) refl d
  where
    cases : (o : Option KeyState) → state_in a ≡ o → option_map_or is_destroyed o false ≡ true
        → option_map_or is_destroyed (state_in b) false ≡ true
    cases None is d = cc
    cases (Some s) is d =
        let now = kept s is in
        ap (λ o. option_map_or is_destroyed o false) now.1 ∙ destroyed-stays s now.0 now.2 d

-- what hides a value, and goes on hiding it
hidden-kept : (key sensitive extractable destroyed s x d : Bool)
    → (sensitive ≡ true → s ≡ true) → (extractable ≡ false → x ≡ false)
    → (destroyed ≡ true → d ≡ true)
    → (not key || (not sensitive && extractable && not destroyed)) ≡ false
    → (not key || (not s && x && not d)) ≡ false
hidden-kept false sensitive extractable destroyed s x d now_s now_x now_d hidden = cc
hidden-kept true true extractable destroyed s x d now_s now_x now_d hidden =
    rw (now_s refl) refl
hidden-kept true false false destroyed true x d now_s now_x now_d hidden = refl
hidden-kept true false false destroyed false x d now_s now_x now_d hidden =
    rw (now_x refl) refl
hidden-kept true false true true true x d now_s now_x now_d hidden = refl
hidden-kept true false true true false false d now_s now_x now_d hidden = refl
hidden-kept true false true true false true d now_s now_x now_d hidden =
    rw (now_d refl) refl
hidden-kept true false true false s x d now_s now_x now_d hidden = cc

pub hidden-stays : HiddenStays
hidden-stays limits h later sound n a b was now hidden =
    let protection = fronts-keep limits h later sound n a b was now in
    let same = class-kept a b (read_only-stays limits h later sound n a b was now) in
    let destroyed = destroyed-kept a b (later-state limits h later sound n a b was now) in
    subst (λ c. (not (is_key_class c)
    || (not (is_set b attribute.Sensitive) && is_set b attribute.Extractable
    && not (option_map_or is_destroyed (state_in b) false)))
    ≡ false) (sym same)
    (hidden-kept (is_key_class (class_of a)) (is_set a attribute.Sensitive)
    (is_set a attribute.Extractable) (option_map_or is_destroyed (state_in a) false)
    (is_set b attribute.Sensitive) (is_set b attribute.Extractable)
    (option_map_or is_destroyed (state_in b) false)
    protection.sensitive protection.extractable destroyed hidden)
