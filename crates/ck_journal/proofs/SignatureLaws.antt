-- Signatures are of their operation's key
use Rattle.std.proofs.Common.{◌≡◌, ℕ, ◌≤◌, Bool, true, false, cond, List, [], ◌∷◌, Option, Some}
use Rattle.std.proofs.Common.{None, length, refl, sym, ap, ◌∙◌, subst, arith}
use Rattle.std.specs.Prelude.{is_none, nat_lt, option_and_then, option_map}
use Rattle.std.specs.Prelude.{unwrap_or}
use Rattle.std.specs.Option.{option_map_or}
use Rattle.std.proofs.lemmas.Bool.{eqb-true, false≢true}
use Rattle.std.proofs.lemmas.Option.{same_Some}
use Rattle.ck_types.specs.Checks.{error_if, first_error, first_of}
use Rattle.ck_types.specs.Mechanisms.{hmac_hash, tag_length}
use Rattle.ck_types.specs.Numbers.{number_bytes, same_bytes}
use Rattle.ck_objects.specs.Attributes.{Column, attribute_of, column_of, type_of}
use Rattle.ck_objects.specs.Records.{is_key, is_key_class, key_value, protections_of}
use Rattle.ck_objects.specs.Records.{changed_error, state_item, with_given}
use Rattle.ck_objects.specs.Templates.{value_at, class_of, error_of_permission, form_error}
use Rattle.ck_objects.specs.Templates.{has_conflict}
use Rattle.ck_types.specs.TokenLimits.{Ranges}
use Rattle.ck_objects.specs.declared.attributes.Attribute.{Attribute}
use Rattle.ck_objects.specs.declared.attributes.Attribute.TheVariants as attribute
use Rattle.ck_objects.specs.declared.attributes.Class.{Class}
use Rattle.ck_objects.specs.declared.attributes.Class.TheVariants as class
use Rattle.ck_types.specs.declared.errors.RvError.TheVariants as rv_error
use Rattle.ck_types.specs.declared.hashes.Hash.{Hash}
use Rattle.ck_types.specs.declared.mechanisms.Mechanism.{Mechanism}
use Rattle.ck_objects.specs.declared.items.Item.{Item}
use Rattle.ck_mac.specs.Computations.{Computation, hmac_by, tag_of}
use Rattle.ck_types.proofs.CheckLemmas.{error_if-none, or_else-none}
use Rattle.ck_journal.specs.declared.calls.Call.{Call}
use Rattle.ck_journal.specs.declared.calls.Call.TheVariants as call
use Rattle.ck_journal.specs.declared.calls.Entry.{Entry}
use Rattle.ck_journal.specs.declared.operations.OperationKind.{OperationKind}
use Rattle.ck_journal.specs.declared.operations.OperationKind.TheVariants as kind
use Rattle.ck_journal.specs.declared.replies.Body.TheVariants as body
use Rattle.ck_journal.specs.declared.replies.Reply.{Reply}
use Rattle.ck_journal.specs.Answers.{bytes_reply, call_error, hmac_init_error}
use Rattle.ck_journal.specs.Answers.{ok, session_error, tag_in, too_small, usage_error}
use Rattle.ck_journal.specs.Effects.{effects_of}
use Rattle.ck_journal.specs.Histories.{History, start, ◌◁◌, done}
use Rattle.ck_journal.specs.KeyLaws.{IsSignatureIn, SignaturesAreOfTheKey, signed_message, signs}
use Rattle.ck_journal.specs.Laws.{IsSoundHistory}
use Rattle.ck_journal.specs.Objects.{attributes_named, attributes_or_empty, creations, object_at}
use Rattle.ck_journal.specs.Objects.{object_named}
use Rattle.ck_journal.specs.OperationCalls.{operation_step}
use Rattle.ck_journal.specs.Operations.{computation_in, ends, hmac_of, init_key, is_active, key_in}
use Rattle.ck_journal.specs.Operations.{message_in, started_computation, starts}
use Rattle.ck_journal.proofs.CopyLaws.{key-class, ungiven, value-kept}
use Rattle.ck_journal.proofs.KeyUseLemmas.{init-checks_key, key-named, signing-keys}
use Rattle.ck_journal.proofs.KeyUseLemmas.{starting-call, starting-kind}
use Rattle.ck_journal.proofs.LaterLemmas.{creations-next, just_before, was_there}
use Rattle.ck_journal.proofs.LegalLemmas.{allowed-done, by-done, last-passes, later-passes}
use Rattle.ck_journal.proofs.LegalLemmas.{object_stays}
use Rattle.ck_journal.proofs.NameLemmas.{found-named, named-passes}
use Rattle.ck_journal.proofs.ObjectMoves.{object_at-left, object_at-within}

-- ---- a key keeps its value

-- where the first is a key the second is one, with the same value
abbrev KeepsValue : List Item → List Item → Type 0
KeepsValue a b =
    is_key a ≡ true → (is_key b ≡ true) × (key_value b ≡ key_value a)

-- a template that gives neither the class nor the value
unvalued : (template a : List Item) → value_at template (type_of attribute.Class) ≡ None
    → (is_key a ≡ true → value_at template (type_of attribute.Value) ≡ None)
    → KeepsValue a (with_given template a)
unvalued template a classless valueless key =
    let same = value-kept template (type_of attribute.Class) classless a in (
      ap (λ o. is_key_class
          (cond (same_bytes (unwrap_or o []) (number_bytes 4)) class.SecretKey class.Data)) same
          ∙ key,
      ap (λ o. unwrap_or o []) (value-kept template (type_of attribute.Value) (valueless key) a),
    )

-- where objects of the class have the attribute: whether a template of a change may give it
abbrev changes_give : Class → Attribute → Option Bool
changes_give c a = option_map (λ (entry : Column). entry.purposes.set) (column_of c a)

class-unset : (c : Class) → changes_give c attribute.Class ≡ Some false
class-unset class.Data = refl
class-unset class.SecretKey = refl

changed-value : (template a : List Item)
    → changed_error (class_of a) (protections_of a) template ≡ None
    → KeepsValue a (with_given template a)
changed-value template a fine =
    let c = class_of a in
    let gives = changes_give c in
    let form = first_error form_error template in
    let conflict = error_if (has_conflict template) rv_error.TemplateInconsistent in
    let permitted = first_error
    (λ (item : Item). error_of_permission (option_and_then gives (attribute_of item.kind)))
    template in
    let checks = or_else-none (first_of (form ∷ conflict ∷ permitted ∷ [])) _ fine in
    let passes = last-passes permitted
    (later-passes conflict _ (later-passes form _ checks.0)) in
    unvalued template a (ungiven gives attribute.Class (class-unset c) template passes)
    (λ key. ungiven gives attribute.Value
    (subst (λ k. changes_give k attribute.Value ≡ Some false) (sym (key-class c key)) refl)
    template passes)

value_stays : (limits : Ranges) (e : Entry) (h : History) → IsSoundHistory limits (e ◁ h)
    → (n : ℕ) (a b : List Item) → object_at h n ≡ Some a → object_at (e ◁ h) n ≡ Some b
    → KeepsValue a b
value_stays limits e h good n a b was =
    object_stays limits h n a (KeepsValue a) (λ key. (key, refl))
    (λ object found template is named fine.
    let same = found-named limits good.in_range h good.sound good.legal.1 object n a found was named
    is in
    changed-value template a
    (subst (λ items. changed_error (class_of items) (protections_of items) template ≡ None)
    same fine))
    (λ s. unvalued (state_item s ∷ []) a refl (λ key. refl)) e good.sound good.legal b was

-- ---- what an active operation computes

-- this is an HMAC under the value of the key with these attributes
record IsUnder (a : List Item) (computation : Option Computation) : Type 0 where
  of_key : is_key a ≡ true
  hash : Hash
  n : ℕ
  computes : computation ≡ Some (hmac_by hash (key_value a) n)

under-started : (hash : Option Hash) (n : Option ℕ) (a : List Item) → is_none hash ≡ false
    → is_none n ≡ false → is_key a ≡ true → IsUnder a (hmac_of hash n (key_value a))
under-started None n a h l key = cc
under-started (Some hash) None a h l key = cc
under-started (Some hash) (Some n) a h l key =
    record { of_key = key; hash = hash; n = n; computes = refl }

init-under : (k : OperationKind) (h : History) (session : ℕ) (mechanism : Mechanism) (key n : ℕ)
    → hmac_init_error k h session mechanism key ≡ None → object_named h key ≡ Some n
    → (a : List Item) → object_at h n ≡ Some a
    → IsUnder a (hmac_of (hmac_hash mechanism.kind) (tag_length mechanism)
    (key_value (attributes_or_empty h key)))
init-under k h session mechanism key n p named a there =
    let found = key-named (attributes_named h key) (usage_error k)
    (init-checks_key k h session mechanism key p) in
    let is : attributes_named h key ≡ Some a = ap (option_and_then (object_at h)) named ∙ there in
    let same : found.0 ≡ a = same_Some found.0 a (sym found.1 ∙ is) in
    let unknown = error_if (is_none (hmac_hash mechanism.kind)) rv_error.MechanismInvalid in
    let unfit = error_if (is_none (tag_length mechanism)) rv_error.MechanismParamInvalid in
    let hash = or_else-none unknown _
    (later-passes (error_if (is_active k h session) rv_error.OperationActive) _
    (later-passes (session_error h session) _ p)) in
    let tag = or_else-none unfit _ hash.1 in
    subst (λ items. IsUnder a (hmac_of (hmac_hash mechanism.kind) (tag_length mechanism)
    (key_value items)))
    (sym (ap (λ o. unwrap_or o []) is))
    (under-started (hmac_hash mechanism.kind) (tag_length mechanism) a
    (error_if-none (is_none (hmac_hash mechanism.kind)) rv_error.MechanismInvalid hash.0)
    (error_if-none (is_none (tag_length mechanism)) rv_error.MechanismParamInvalid tag.0)
    (subst (λ items. is_key items ≡ true) same found.2))

-- an operation that starts with the object of this number computes under its value
abbrev StartsUnder : OperationKind → History → ℕ → ℕ → Option Call → Type 0
StartsUnder k h s n d =
    starts d k s ≡ true → option_and_then (object_named h) (init_key d) ≡ Some n
    → (a : List Item) → object_at h n ≡ Some a → IsUnder a (started_computation h d)

call-under : (limits : Ranges) (k : OperationKind) → (k ≡ kind.Digest → ⊥) → (h : History)
    (s n : ℕ) (c : Call) → call_error limits h c ≡ None → StartsUnder k h s n (Some c)
call-under limits k keyed h s n c p t named a there =
    let start = starting-call k c keyed (starting-kind k s (operation_step c) t) in
    subst (IsUnder a) (sym (start.5 h))
    (init-under k h start.0 start.1 start.2 n (sym (start.4 limits h) ∙ p)
    (sym (ap (option_and_then (object_named h)) start.3) ∙ named) a there)

-- what starts an operation leaves objects as they are
starts-objects : (d : Option Call) (k : OperationKind) (s : ℕ) → starts d k s ≡ true
    → (effects_of d).objects ≡ false
starts-objects (Some (call.InitToken pin)) k s t = cc
starts-objects (Some (call.CloseSession session)) k s t = cc
starts-objects (Some call.CloseAllSessions) k s t = cc
starts-objects (Some (call.Logout session)) k s t = cc
starts-objects (Some (call.CreateObject session template)) k s t = cc
starts-objects (Some (call.GenerateKey session mechanism template random)) k s t = cc
starts-objects (Some (call.CopyObject session object template)) k s t = cc
starts-objects (Some (call.SetAttributeValue session object template)) k s t = cc
starts-objects (Some (call.SetKeyState session key number)) k s t = cc
starts-objects (Some (call.DestroyObject session object)) k s t = cc
starts-objects other k s t = refl

-- an object that a handle names has been created
named-within : (h : History) (n : ℕ) → (key : Option ℕ)
    → option_and_then (object_named h) key ≡ Some n
    → ((handle : ℕ) → object_named h handle ≡ Some n → n ≤ creations h) → n ≤ creations h
named-within h n None e within = cc
named-within h n (Some handle) e within = within handle e

under-kept : (a b : List Item) (computation : Option Computation) → KeepsValue a b
    → IsUnder a computation → IsUnder b computation
under-kept a b computation keeps under =
    let kept = keeps under.of_key in
    record {
      of_key = kept.0;
      hash = under.hash;
      n = under.n;
      computes = under.computes
          ∙ ap (λ value. Some (hmac_by under.hash value under.n)) (sym kept.1);
    }

active-under : (limits : Ranges) (k : OperationKind) → (k ≡ kind.Digest → ⊥) → (h : History)
    → IsSoundHistory limits h → (s n : ℕ) → is_active k h s ≡ true → key_in k h s ≡ Some n
    → (n ≤ creations h)
    × ((a : List Item) → object_at h n ≡ Some a → IsUnder a (computation_in k h s))
active-under limits k keyed (start b) good s n active key = cc
active-under limits k keyed (e ◁ h) good s n active key =
    cases (starts (done e) k s) (ends k e s) refl
    (active-under limits k keyed h (just_before limits e h good) s n) active key
  where
    cases : (started ended : Bool) → starts (done e) k s ≡ started
        → (is_active k h s ≡ true → key_in k h s ≡ Some n
        → (n ≤ creations h)
        × ((a : List Item) → object_at h n ≡ Some a → IsUnder a (computation_in k h s)))
        → cond started true (cond ended false (is_active k h s)) ≡ true
        → cond started (option_and_then (object_named h) (init_key (done e))) (key_in k h s)
        ≡ Some n
        → (n ≤ creations (e ◁ h))
        × ((a : List Item) → object_at (e ◁ h) n ≡ Some a
        → IsUnder a (cond started (started_computation h (done e)) (computation_in k h s)))
    cases true ended t before active key =
        let within = named-within h n (init_key (done e)) key (λ handle named.
        let there = named-passes h handle n named in
        (object_at-within h good.sound n there.0 there.1).1) in
        let rises = creations-next e h in (
          omega (arith, within, rises),
          λ a there. by-done limits e h good.legal (StartsUnder k h s n) (λ t. cc)
              (call-under limits k keyed h s n) t key a
              (sym (object_at-left e h (starts-objects (done e) k s t) n) ∙ there),
        )
    cases false true t before active key = cc
    cases false false t before active key =
        let was = before active key in
        let rises = creations-next e h in (
          omega (arith, was.0, rises),
          λ a there. let old = was_there e h n a was.0 there in
              under-kept old.0 a (computation_in k h s)
              (value_stays limits e h good n old.0 a old.1 there) (was.1 old.0 old.1),
        )

-- ---- what signing returns

given-bytes : (room : Option ℕ) (tag signature : List ℕ)
    → (bytes_reply room tag).body ≡ body.Bytes signature → signature ≡ tag
given-bytes None tag signature e = cc
given-bytes (Some room) tag signature e = cases (nat_lt room (length tag)) e
  where
    cases : (longer : Bool)
        → (cond longer (too_small (length tag)) (ok (body.Bytes tag))).body ≡ body.Bytes signature
        → signature ≡ tag
    cases true e = cc
    cases false e = cc

module _ (limits : Ranges) (e : Entry) (h : History) (good : IsSoundHistory limits (e ◁ h))
    (session : ℕ) (signs_here : signs (done e) session ≡ true) where
  is-signature : (message signature : List ℕ) → signature ≡ tag_in kind.Sign h session message
      → IsSignatureIn h session message signature
  is-signature message signature tag =
      let has = signing-keys limits e h good session signs_here in
      let under = (active-under limits kind.Sign (λ e. cc) h (just_before limits e h good) session
      has.key has.active has.chosen).1 has.attributes has.present in
      record {
        key = has.key;
        attributes = has.attributes;
        hash = under.hash;
        n = under.n;
        chosen = has.chosen;
        present = has.present;
        computes = under.computes;
        tag = tag
            ∙ ap (λ o. option_map_or (λ computation. tag_of computation message) o [])
            under.computes;
      }

  signature-by : (d : Option Call) → done e ≡ d → (signature : List ℕ) → signs d session ≡ true
      → e.reply.body ≡ body.Bytes signature
      → IsSignatureIn h session (signed_message h d) signature
  signature-by (Some (call.Sign s bytes room)) did signature t returned =
      let reply = allowed-done limits e h good.legal (call.Sign s bytes room) did in
      is-signature bytes signature
      (given-bytes room (tag_in kind.Sign h s bytes) signature
      (sym (ap (λ (r : Reply). r.body) reply) ∙ returned)
      ∙ ap (λ k. tag_in kind.Sign h k bytes) (eqb-true s session t))
  signature-by (Some (call.SignFinal s room)) did signature t returned =
      let reply = allowed-done limits e h good.legal (call.SignFinal s room) did in
      let message = message_in kind.Sign h s in
      is-signature message signature
      (given-bytes room (tag_in kind.Sign h s message) signature
      (sym (ap (λ (r : Reply). r.body) reply) ∙ returned)
      ∙ ap (λ k. tag_in kind.Sign h k message) (eqb-true s session t))
  signature-by other did signature t returned = absurd (false≢true t)

pub signatures-of_key : SignaturesAreOfTheKey
signatures-of_key limits e h good session signature t returned =
    signature-by limits e h good session t (done e) refl signature t returned
