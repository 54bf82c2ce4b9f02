-- The keys of active operations
use Rattle.std.proofs.Common.{◌≡◌, ℕ, Bool, true, false, cond, not, List, Option, Some, None, refl}
use Rattle.std.proofs.Common.{sym, ap, ◌∙◌, subst}
use Rattle.std.specs.Prelude.{◌==◌, ◌&&◌, ◌||◌, is_none, option_and_then, option_map}
use Rattle.std.specs.Option.{option_map_or}
use Rattle.std.proofs.lemmas.Bool.{eqb-true, false≢true, not-false}
use Rattle.std.proofs.lemmas.Option.{none-some, same_Some}
use Rattle.ck_types.specs.Checks.{error_if}
use Rattle.ck_objects.specs.KeyStates.{may_sign, may_verify}
use Rattle.ck_types.specs.Mechanisms.{hmac_hash, tag_length}
use Rattle.ck_objects.specs.Records.{state_in, is_key, is_set, key_value}
use Rattle.ck_types.specs.TokenLimits.{Ranges}
use Rattle.ck_types.specs.declared.errors.RvError.{RvError}
use Rattle.ck_types.specs.declared.errors.RvError.TheVariants as rv_error
use Rattle.ck_objects.specs.declared.items.Item.{Item}
use Rattle.ck_objects.specs.declared.key_states.KeyState.{KeyState}
use Rattle.ck_types.specs.declared.mechanisms.Mechanism.{Mechanism}
use Rattle.ck_types.proofs.CheckLemmas.{or_else-none, error_if-none}
use Rattle.ck_journal.specs.declared.calls.Call.{Call}
use Rattle.ck_journal.specs.declared.calls.Call.TheVariants as call
use Rattle.ck_journal.specs.declared.calls.Entry.{Entry}
use Rattle.ck_journal.specs.declared.operations.OperationKind.{OperationKind}
use Rattle.ck_journal.specs.declared.operations.OperationKind.TheVariants as kind
use Rattle.ck_journal.specs.Answers.{IsLegal, call_error, session_error, operation_error}
use Rattle.ck_journal.specs.Answers.{piece_error, key_error, usage_error, usage_flag, may_serve}
use Rattle.ck_journal.specs.Answers.{key_state_error, present_key_error, message_error}
use Rattle.ck_journal.specs.Answers.{hmac_init_error, final_error}
use Rattle.ck_journal.specs.Histories.{History, start, ◌◁◌, done}
use Rattle.ck_journal.specs.KeyLaws.{HasKey, signs, verifies, SigningKeysMaySign}
use Rattle.ck_journal.specs.KeyLaws.{VerifyingKeysMayVerify, OperationsStartWithUsableKeys}
use Rattle.ck_journal.specs.KeyLaws.{IsUsable}
use Rattle.ck_journal.specs.Objects.{object_at, object_named, attributes_named}
use Rattle.ck_journal.specs.Objects.{attributes_or_empty}
use Rattle.ck_journal.specs.OperationCalls.{OperationStep, Step, operation_step, step_in}
use Rattle.ck_journal.specs.OperationCalls.{same_kind}
use Rattle.ck_journal.specs.Operations.{starts, ends, is_active, is_updated, key_in, init_key}
use Rattle.ck_journal.specs.Operations.{is_initialization, cancels, finishes, hmac_with}
use Rattle.ck_journal.specs.Operations.{started_computation}
use Rattle.ck_journal.specs.Sessions.{closes, ends_operations, is_open}
use Rattle.ck_journal.proofs.LegalLemmas.{by-done, later-passes, last-passes}
use Rattle.ck_journal.proofs.LegalLemmas.{object-found, session-open, stays-open}
use Rattle.ck_journal.proofs.NameLemmas.{found-object}

-- ---- an active signing or verifying has a key

pub key-named : (found : Option (List Item)) (checks : List Item → Option RvError)
    → option_map_or checks
    (option_and_then (λ items. cond (is_key items) (Some items) None) found)
    (Some rv_error.KeyHandleInvalid) ≡ None
    → (attributes : List Item) × (found ≡ Some attributes) × (is_key attributes ≡ true)
    × (checks attributes ≡ None)
key-named None checks e = cc
key-named (Some attributes) checks e = cases (is_key attributes) refl e
  where
    cases : (key : Bool) → is_key attributes ≡ key
        → option_map_or checks (cond key (Some attributes) None) (Some rv_error.KeyHandleInvalid)
        ≡ None
        → (found : List Item) × (Some attributes ≡ Some found) × (is_key found ≡ true)
        × (checks found ≡ None)
    cases true k e = (attributes, refl, k, e)
    cases false k e = cc

-- a start that passes its checks passes that of its key
pub init-checks_key : (k : OperationKind) (h : History) (session : ℕ) (mechanism : Mechanism)
    (key : ℕ)
    → hmac_init_error k h session mechanism key ≡ None → key_error h key (usage_error k) ≡ None
init-checks_key k h session mechanism key p =
    last-passes (key_error h key (usage_error k))
    (later-passes (error_if (is_none (tag_length mechanism)) rv_error.MechanismParamInvalid) _
    (later-passes (error_if (is_none (hmac_hash mechanism.kind)) rv_error.MechanismInvalid) _
    (later-passes (error_if (is_active k h session) rv_error.OperationActive) _
    (later-passes (session_error h session) _ p))))

-- a start that passes its checks names an object
pub init-named : (k : OperationKind) (h : History) (session : ℕ) (mechanism : Mechanism) (key : ℕ)
    → hmac_init_error k h session mechanism key ≡ None
    → (n : ℕ) × (object_named h key ≡ Some n)
init-named k h session mechanism key p =
    let named = key-named (attributes_named h key) (usage_error k)
    (init-checks_key k h session mechanism key p) in
    let found = found-object (object_at h) (object_named h key) named.0 named.1 in
    (found.0, found.1)

-- the step starts an operation of the kind
pub initializes_kind : OperationKind → Option OperationStep → Bool
initializes_kind k None = false
initializes_kind k (Some o) = same_kind o.kind k && is_initialization (Some o.step)

pub starting-kind : (k : OperationKind) (s : ℕ) (o : Option OperationStep)
    → is_initialization (step_in o k s) ≡ true → initializes_kind k o ≡ true
unfolding initializes_kind
starting-kind k s None t = cc
starting-kind k s (Some o) t = cases (same_kind o.kind k) (o.session == s) (Some o.step) t
  where
    cases : (same here : Bool) (step : Option Step)
        → is_initialization (cond (same && here) step None) ≡ true
        → (same && is_initialization step) ≡ true
    cases true true step t = t
    cases true false step t = cc
    cases false here step t = cc

-- the session of a step
step_session : Option OperationStep → ℕ
step_session None = 0
step_session (Some o) = o.session

starting-session : (k : OperationKind) (s : ℕ) (o : Option OperationStep)
    → is_initialization (step_in o k s) ≡ true
    → (step_session o ≡ s)
    × (is_initialization (option_map (λ (p : OperationStep). p.step) o) ≡ true)
unfolding step_session
starting-session k s None t = cc
starting-session k s (Some o) t =
    cases (same_kind o.kind k) (o.session == s) refl (Some o.step) t
  where
    cases : (same here : Bool) → o.session == s ≡ here → (step : Option Step)
        → is_initialization (cond (same && here) step None) ≡ true
        → (o.session ≡ s) × (is_initialization step ≡ true)
    cases true true e step t = (eqb-true o.session s e, t)
    cases true false e step t = cc
    cases false here e step t = cc

init-open : (limits : Ranges) (h : History) (c : Call)
    → is_initialization (option_map (λ (p : OperationStep). p.step) (operation_step c)) ≡ true
    → call_error limits h c ≡ None → is_open h (step_session (operation_step c)) ≡ true
unfolding step_session
init-open limits h (call.DigestInit session mechanism) t p =
    session-open h session (or_else-none (session_error h session) _ p).0
init-open limits h (call.SignInit session mechanism key) t p =
    session-open h session (or_else-none (session_error h session) _ p).0
init-open limits h (call.VerifyInit session mechanism key) t p =
    session-open h session (or_else-none (session_error h session) _ p).0
init-open limits h other t _ = absurd (false≢true t)

-- a start stands in an open session
starting-open : (limits : Ranges) (h : History) (k : OperationKind) (s : ℕ) (c : Call)
    → call_error limits h c ≡ None → starts (Some c) k s ≡ true → is_open h s ≡ true
starting-open limits h k s c p t =
    let here = starting-session k s (operation_step c) t in
    subst (λ j. is_open h j ≡ true) here.0 (init-open limits h c here.1 p)

-- a start of a signing or a verifying
pub starting-call : (k : OperationKind) (c : Call) → (k ≡ kind.Digest → ⊥)
    → initializes_kind k (operation_step c) ≡ true
    → (session : ℕ) × (mechanism : Mechanism) × (key : ℕ) × (init_key (Some c) ≡ Some key)
    × ((limits : Ranges) (h : History)
    → call_error limits h c ≡ hmac_init_error k h session mechanism key)
    × ((h : History) → started_computation h (Some c)
    ≡ hmac_with mechanism (key_value (attributes_or_empty h key)))
unfolding initializes_kind
starting-call kind.Digest c keyed t = absurd (keyed refl)
starting-call kind.Sign (call.SignInit session mechanism key) keyed t =
    (session, mechanism, key, refl, (λ limits h. refl), (λ h. refl))
starting-call kind.Sign other keyed t = cc
starting-call kind.Verify (call.VerifyInit session mechanism key) keyed t =
    (session, mechanism, key, refl, (λ limits h. refl), (λ h. refl))
starting-call kind.Verify other keyed t = cc

started-key : (limits : Ranges) (k : OperationKind) → (k ≡ kind.Digest → ⊥) → (h : History)
    (s : ℕ) (c : Call) → call_error limits h c ≡ None → starts (Some c) k s ≡ true
    → (n : ℕ) × (option_and_then (object_named h) (init_key (Some c)) ≡ Some n)
started-key limits k keyed h s c p t =
    let start = starting-call k c keyed (starting-kind k s (operation_step c) t) in
    let named = init-named k h start.0 start.1 start.2 (sym (start.4 limits h) ∙ p) in
    (named.0, ap (option_and_then (object_named h)) start.3 ∙ named.1)

key-step : (started ended was : Bool) (named before : Option ℕ)
    → (started ≡ true → (n : ℕ) × (named ≡ Some n))
    → (was ≡ true → (n : ℕ) × (before ≡ Some n))
    → cond started true (cond ended false was) ≡ true
    → (n : ℕ) × (cond started named before ≡ Some n)
key-step true ended was named before now then e = now refl
key-step false true was named before now then e = cc
key-step false false was named before now then e = then e

active-key : (limits : Ranges) (k : OperationKind) → (k ≡ kind.Digest → ⊥) → (h : History)
    → IsLegal limits h → (s : ℕ) → is_active k h s ≡ true
    → (n : ℕ) × (key_in k h s ≡ Some n)
active-key limits k keyed (start b) legal s active = cc
active-key limits k keyed (e ◁ h) legal s active =
    key-step (starts (done e) k s) (ends k e s) (is_active k h s)
    (option_and_then (object_named h) (init_key (done e))) (key_in k h s)
    (by-done limits e h legal
    (λ d. starts d k s ≡ true
    → (n : ℕ) × (option_and_then (object_named h) (init_key d) ≡ Some n))
    (λ t. cc) (started-key limits k keyed h s))
    (active-key limits k keyed h legal.1 s) active

-- ---- the session of an active operation is open

closing-operation : (k : OperationKind) (e : Entry) (s : ℕ) → closes (done e) s ≡ true
    → (starts (done e) k s ≡ false) × (ends k e s ≡ true)
closing-operation k e s t = (closes-starts (done e) t, ends-all (done e) t)
  where
    closes-starts : (d : Option Call) → closes d s ≡ true → starts d k s ≡ false
    closes-starts (Some (call.CloseSession session)) t = refl
    closes-starts (Some call.CloseAllSessions) t = refl
    closes-starts other t = cc

    ends-all : (d : Option Call) → closes d s ≡ true
        → (ends_operations d s || cancels d k s || finishes e.call k e.reply s) ≡ true
    ends-all (Some (call.CloseSession session)) t =
        ap (λ b. b || false || finishes e.call k e.reply s) t
    ends-all (Some call.CloseAllSessions) t = refl
    ends-all other t = cc

pub is_active-open : (limits : Ranges) (k : OperationKind) (h : History) → IsLegal limits h
    → (s : ℕ) → is_active k h s ≡ true → is_open h s ≡ true
is_active-open limits k (start b) legal s active = cc
is_active-open limits k (e ◁ h) legal s active =
    stays-open (done e) h s (starts (done e) k s) (ends k e s) (is_active k h s)
    (closing-operation k e s)
    (by-done limits e h legal (λ d. starts d k s ≡ true → is_open h s ≡ true) (λ t. cc)
    (starting-open limits h k s))
    (is_active-open limits k h legal.1 s) active

-- ---- its key serves where the call is answered OK

-- a key that passes the check of its state has one that serves
serving-state : (k : OperationKind) (attributes : List Item) → key_state_error k attributes ≡ None
    → (state : KeyState) × (state_in attributes ≡ Some state) × (may_serve k state ≡ true)
serving-state k attributes p =
    cases (state_in attributes)
    (not-false (option_map_or (may_serve k) (state_in attributes) false)
    (error_if-none _ rv_error.KeyFunctionNotPermitted p))
  where
    cases : (o : Option KeyState) → option_map_or (may_serve k) o false ≡ true
        → (state : KeyState) × (o ≡ Some state) × (may_serve k state ≡ true)
    cases None t = cc
    cases (Some state) t = (state, refl, t)

-- an operation that passes these checks has a key that serves
serving-key : (limits : Ranges) (k : OperationKind) → (k ≡ kind.Digest → ⊥) → (h : History)
    → IsLegal limits h → (s : ℕ) → operation_error k h s ≡ None
    → present_key_error k h (key_in k h s) ≡ None → HasKey k (may_serve k) h s
serving-key limits k keyed h legal s active present =
    let is_so = not-false (is_active k h s)
    (error_if-none _ rv_error.OperationNotInitialized
    (last-passes (error_if (not (is_active k h s)) rv_error.OperationNotInitialized)
    (later-passes (session_error h s) _ active))) in
    let key = active-key limits k keyed h legal s is_so in
    let there = object-found (object_at h key.0) (key_state_error k) rv_error.KeyHandleInvalid
    (ap (present_key_error k h) (sym key.1) ∙ present) in
    let state = serving-state k there.0 there.2 in
    record {
      key = key.0;
      attributes = there.0;
      state = state.0;
      active = is_so;
      chosen = key.1;
      present = there.1;
      has_state = state.1;
      serves = state.2;
    }

message-key : (limits : Ranges) (k : OperationKind) → (k ≡ kind.Digest → ⊥) → (h : History)
    → IsLegal limits h → (s : ℕ) (bytes : List ℕ) → message_error k h s bytes ≡ None
    → HasKey k (may_serve k) h s
message-key limits k keyed h legal s bytes p =
    serving-key limits k keyed h legal s (or_else-none (operation_error k h s) _ p).0
    (last-passes (present_key_error k h (key_in k h s))
    (later-passes (piece_error bytes) _
    (later-passes (error_if (is_updated k h s) rv_error.OperationNotInitialized) _
    (later-passes (operation_error k h s) _ p))))

final-key : (limits : Ranges) (k : OperationKind) → (k ≡ kind.Digest → ⊥) → (h : History)
    → IsLegal limits h → (s : ℕ) → final_error k h s ≡ None → HasKey k (may_serve k) h s
final-key limits k keyed h legal s p =
    serving-key limits k keyed h legal s (or_else-none (operation_error k h s) _ p).0
    (last-passes (present_key_error k h (key_in k h s)) (later-passes (operation_error k h s) _ p))

signs-key : (limits : Ranges) (h : History) → IsLegal limits h → (s : ℕ) (c : Call)
    → call_error limits h c ≡ None → signs (Some c) s ≡ true → HasKey kind.Sign may_sign h s
signs-key limits h legal s (call.Sign session bytes room) p t =
    subst (HasKey kind.Sign may_sign h) (eqb-true session s t)
    (message-key limits kind.Sign (λ e. cc) h legal session bytes p)
signs-key limits h legal s (call.SignFinal session room) p t =
    subst (HasKey kind.Sign may_sign h) (eqb-true session s t)
    (final-key limits kind.Sign (λ e. cc) h legal session p)
signs-key limits h legal s other _ t = absurd (false≢true t)

verifies-key : (limits : Ranges) (h : History) → IsLegal limits h → (s : ℕ) (c : Call)
    → call_error limits h c ≡ None → verifies (Some c) s ≡ true
    → HasKey kind.Verify may_verify h s
verifies-key limits h legal s (call.Verify session bytes signature) p t =
    subst (HasKey kind.Verify may_verify h) (eqb-true session s t)
    (message-key limits kind.Verify (λ e. cc) h legal session bytes
    (or_else-none (message_error kind.Verify h session bytes) _ p).0)
verifies-key limits h legal s (call.VerifyFinal session signature) p t =
    subst (HasKey kind.Verify may_verify h) (eqb-true session s t)
    (final-key limits kind.Verify (λ e. cc) h legal session
    (or_else-none (final_error kind.Verify h session) _ p).0)
verifies-key limits h legal s other _ t = absurd (false≢true t)

pub signing-keys : SigningKeysMaySign
signing-keys limits e h good s t =
    by-done limits e h good.legal (λ d. signs d s ≡ true → HasKey kind.Sign may_sign h s) (λ t. cc)
    (signs-key limits h good.legal.1 s) t

pub verifying-keys : VerifyingKeysMayVerify
verifying-keys limits e h good s t =
    by-done limits e h good.legal (λ d. verifies d s ≡ true → HasKey kind.Verify may_verify h s)
    (λ t. cc) (verifies-key limits h good.legal.1 s) t

-- ---- its key may be used where it starts

usable-key : (k : OperationKind) (h : History) (session : ℕ) (mechanism : Mechanism) (key : ℕ)
    → hmac_init_error k h session mechanism key ≡ None → IsUsable k h key
usable-key k h session mechanism key p =
    let there = key-named (attributes_named h key) (usage_error k)
    (init-checks_key k h session mechanism key p) in
    let unset = not (is_set there.0 (usage_flag k)) in
    let flag = or_else-none (error_if unset rv_error.KeyFunctionNotPermitted) _ there.3 in
    let state = serving-state k there.0 (last-passes (key_state_error k there.0) flag.1) in
    record {
      attributes = there.0;
      state = state.0;
      named = there.1;
      of_key = there.2;
      flag = not-false (is_set there.0 (usage_flag k))
          (error_if-none unset rv_error.KeyFunctionNotPermitted flag.0);
      has_state = state.1;
      serves = state.2;
    }

-- a digest starts without a key
digest-keyless : (c : Call) → initializes_kind kind.Digest (operation_step c) ≡ true
    → init_key (Some c) ≡ None
unfolding initializes_kind
digest-keyless (call.SignInit session mechanism key) t = cc
digest-keyless (call.VerifyInit session mechanism key) t = cc
digest-keyless other t = refl

keyed-usable : (limits : Ranges) (h : History) (k : OperationKind) → (k ≡ kind.Digest → ⊥)
    → (handle : ℕ) (c : Call) → call_error limits h c ≡ None
    → initializes_kind k (operation_step c) ≡ true → init_key (Some c) ≡ Some handle
    → IsUsable k h handle
keyed-usable limits h k keyed handle c p t key =
    let start = starting-call k c keyed t in
    subst (IsUsable k h) (same_Some start.2 handle (sym start.3 ∙ key))
    (usable-key k h start.0 start.1 start.2 (sym (start.4 limits h) ∙ p))

start-usable : (limits : Ranges) (h : History) (k : OperationKind) (s handle : ℕ) (c : Call)
    → call_error limits h c ≡ None → starts (Some c) k s ≡ true → init_key (Some c) ≡ Some handle
    → IsUsable k h handle
start-usable limits h kind.Digest s handle c p t key =
    absurd (none-some handle
    (sym (digest-keyless c (starting-kind kind.Digest s (operation_step c) t)) ∙ key))
start-usable limits h kind.Sign s handle c p t key =
    keyed-usable limits h kind.Sign (λ e. cc) handle c p
    (starting-kind kind.Sign s (operation_step c) t) key
start-usable limits h kind.Verify s handle c p t key =
    keyed-usable limits h kind.Verify (λ e. cc) handle c p
    (starting-kind kind.Verify s (operation_step c) t) key

pub starts-usable : OperationsStartWithUsableKeys
starts-usable limits e h good k s handle t key =
    by-done limits e h good.legal
    (λ d. starts d k s ≡ true → init_key d ≡ Some handle → IsUsable k h handle) (λ t. cc)
    (start-usable limits h k s handle) t key
