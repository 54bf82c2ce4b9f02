-- How sessions and objects keep agreeing with the history where a change is carried out
use Rattle.std.proofs.Common.{◌≡◌, ℕ, Bool, true, false, cond, List, [], ◌∷◌, Option, Some, None}
use Rattle.std.proofs.Common.{refl, ap, ◌∙◌}
use Rattle.std.specs.Prelude.{option_and_then, unwrap_or, is_none, if◌then◌else◌, ◌==◌, ◌&&◌}
use Rattle.std.specs.Option.{option_map_or}
use Rattle.ck_types.specs.Checks.{error_if, or_else, first_of}
use Rattle.ck_objects.specs.KeyStates.{state_of_number}
use Rattle.ck_types.specs.Mechanisms.{digest_hash, hmac_hash, tag_length}
use Rattle.ck_objects.specs.Records.{is_key, state_in, protections_of, placement_of}
use Rattle.ck_objects.specs.Records.{changed_error}
use Rattle.ck_objects.specs.Templates.{class_of}
use Rattle.ck_types.specs.TokenLimits.{Ranges}
use Rattle.ck_types.specs.Users.{user_of}
use Rattle.ck_objects.specs.declared.attributes.Attribute.TheVariants as attribute
use Rattle.ck_types.specs.declared.errors.RvError.{RvError}
use Rattle.ck_types.specs.declared.errors.RvError.TheVariants as rv_error
use Rattle.ck_types.specs.declared.hashes.Hash.{Hash}
use Rattle.ck_types.specs.declared.hashes.Hash.TheVariants as hash
use Rattle.ck_objects.specs.declared.items.Item.{Item}
use Rattle.ck_objects.specs.declared.key_states.KeyState.{KeyState}
use Rattle.ck_objects.specs.declared.key_states.KeyState.TheVariants as state
use Rattle.ck_types.specs.declared.mechanisms.Mechanism.{Mechanism}
use Rattle.ck_types.specs.declared.pins.Pin.{Pin}
use Rattle.ck_types.specs.declared.return_codes.Rv.{Rv}
use Rattle.ck_types.specs.declared.return_codes.Rv.TheVariants as rv
use Rattle.ck_objects.specs.declared.templates.Template.{Template}
use Rattle.ck_types.specs.declared.users.UserType.{UserType}
use Rattle.ck_types.specs.declared.users.UserType.TheVariants as user
use Rattle.ck_types.proofs.CheckLemmas.{or_else-none, error_if-none}
use Rattle.ck_journal.specs.declared.calls.Call.{Call}
use Rattle.ck_journal.specs.declared.calls.Call.TheVariants as call
use Rattle.ck_journal.specs.declared.calls.Entry.{Entry}
use Rattle.ck_journal.specs.declared.operations.OperationKind.{OperationKind}
use Rattle.ck_journal.specs.declared.operations.OperationKind.TheVariants as kind
use Rattle.ck_journal.specs.declared.replies.Body.{Body}
use Rattle.ck_journal.specs.Answers.{call_error, session_error, object_error, key_error}
use Rattle.ck_journal.specs.Answers.{read_only_session_error, prohibited_error, known_login_error}
use Rattle.ck_journal.specs.Answers.{transition_error, hmac_init_error}
use Rattle.ck_journal.specs.Histories.{History, ◌◁◌, done, wrong_try, is_ok, is_wrong_pin}
use Rattle.ck_journal.specs.Effects.{effects_of}
use Rattle.ck_journal.specs.Objects.{creates, attributes_or_empty, object_named, object_at}
use Rattle.ck_journal.specs.Pins.{about, is_about, is_user}
use Rattle.ck_journal.specs.Sessions.{is_open}
use Rattle.ck_journal.proofs.LegalLemmas.{later-passes, session-open}
use Rattle.ck_journal.proofs.LoginMoves.{wrong_try-done}
use Rattle.ck_sessions.proofs.Moves.{sessions-left}
use Rattle.ck_sessions.specs.Agreement.{SessionsState, SessionsAgree}
use Rattle.ck_store.proofs.Moves.{objects-left}
use Rattle.ck_store.specs.Agreement.{StoreState, StoreAgrees}
use Rattle.ck_journal.specs.OperationCalls.{OperationStep, operation_step, same_kind}
use Rattle.ck_journal.specs.Operations.{is_active, hmac_with}
use Rattle.ck_mac.specs.Computations.{hmac_by}
use Rattle.ck_operations.specs.Agreement.{OperationsState, OperationsAgree}
use Rattle.ck_operations.specs.Moves.{Stay, End, Does}
use Rattle.ck_parts.specs.Agreement.{PartsAgree}
use Rattle.ck_parts.specs.declared.parts.Parts.{Parts}
use Rattle.ck_parts.proofs.OperationMoves.{nobody-tried, step-alone, reading-alone, operations-kept}
use Rattle.ck_parts.proofs.OperationMoves.{step-no_try, of-done, finished-is, finish-does}
use Rattle.ck_parts.specs.Changes.{change_of, wrong_try_change, refused_by, effect, effect_by}
use Rattle.ck_parts.specs.declared.changes.Change.TheVariants as change

-- ---- a call that was answered OK and changes one part only

module _ (h : History) (e : Entry) (c : Call) (d : done e ≡ Some c) (p : Parts)
    (agree : PartsAgree h p) where
  sessions-kept : (effects_of (Some c)).sessions ≡ false → (effects_of (Some c)).searches ≡ false
      → SessionsAgree (e ◁ h) p.sessions
  sessions-kept fixed idle =
      sessions-left h _ agree.sessions e (ap (λ o. (effects_of o).sessions) d ∙ fixed)
      (ap (λ o. (effects_of o).searches) d ∙ idle)
      (λ u. ap (is_about u h) (wrong_try-done e c d))

  objects-kept : (effects_of (Some c)).objects ≡ false → StoreAgrees (e ◁ h) p.objects
  objects-kept fixed =
      objects-left h _ agree.objects e (ap (λ o. (effects_of o).objects) d ∙ fixed)

  -- the sessions
  pub sessions-only : (effects_of (Some c)).objects ≡ false
      → (effects_of (Some c)).operations ≡ false → operation_step c ≡ None
      → (s : SessionsState) → SessionsAgree (e ◁ h) s
      → PartsAgree (e ◁ h) (record p { sessions = s })
  sessions-only fixed quiet idle s sessions = record {
    sessions = sessions;
    objects = objects-kept fixed;
    operations = operations-kept e c d h _ quiet idle agree.operations;
  }

  -- the objects
  pub objects-only : (effects_of (Some c)).sessions ≡ false → (effects_of (Some c)).searches ≡ false
      → (effects_of (Some c)).operations ≡ false → operation_step c ≡ None
      → (o : StoreState) → StoreAgrees (e ◁ h) o → PartsAgree (e ◁ h) (record p { objects = o })
  objects-only fixed still quiet idle o objects = record {
    sessions = sessions-kept fixed still;
    objects = objects;
    operations = operations-kept e c d h _ quiet idle agree.operations;
  }

  -- the operations
  pub operations-only : (effects_of (Some c)).sessions ≡ false
      → (effects_of (Some c)).searches ≡ false → (effects_of (Some c)).objects ≡ false
      → (o : OperationsState) → OperationsAgree (e ◁ h) o
      → PartsAgree (e ◁ h) (record p { operations = o })
  operations-only fixed still unmoved o operations = record {
    sessions = sessions-kept fixed still;
    objects = objects-kept unmoved;
    operations = operations;
  }

  creation-alone : (c : Call) → creates (Some c) ≡ true
      → ((effects_of (Some c)).sessions ≡ false) × ((effects_of (Some c)).searches ≡ false)
      × ((effects_of (Some c)).operations ≡ false) × (operation_step c ≡ None)
  creation-alone (call.InitToken pin) t = cc
  creation-alone other t = (cc, cc, cc, cc)

  -- a creation changes the objects
  pub objects-created : creates (Some c) ≡ true → (o : StoreState) → StoreAgrees (e ◁ h) o
      → PartsAgree (e ◁ h) (record p { objects = o })
  objects-created t = let k = creation-alone c t in objects-only k.0 k.1 k.2 k.3

-- ---- nothing changes

-- what was done where the change is nothing
module _ (h : History) where
  -- a refusal that changes nothing is no wrong try of anybody's PIN
  nothing_tried : (code : RvError) (c : Call) (u : UserType)
      → change.Nothing ≡ wrong_try_change code (about h (Some c))
      → is_about u h (cond (is_wrong_pin (rv.Error code)) (Some c) None) ≡ false
  nothing_tried rv_error.PinIncorrect c u is = tried (about h (Some c)) is
    where
      tried : (who : Option UserType) → change.Nothing ≡ wrong_try_change rv_error.PinIncorrect who
          → is_user u who ≡ false
      tried None is = refl
      tried (Some other) is = cc
  nothing_tried other c u is = refl

  nothing_refused : (code : RvError) (c : Call) (u : UserType) (o : Option OperationStep)
      → operation_step c ≡ o → change.Nothing ≡ refused_by o code (about h (Some c))
      → is_about u h (cond (is_wrong_pin (rv.Error code)) (Some c) None) ≡ false
  nothing_refused code c u None e is = nothing_tried code c u is
  nothing_refused code c u (Some o) e is =
      nobody-tried h (is_wrong_pin (rv.Error code)) c (step-alone h c o e).about u

  nothing_step : (c : Call) (v : Rv) (b : Body) → change.Nothing ≡ effect_by h c v b
      → ((effects_of (cond (is_ok v) (Some c) None)).sessions ≡ false) ×
      ((effects_of (cond (is_ok v) (Some c) None)).searches ≡ false)
      × ((effects_of (cond (is_ok v) (Some c) None)).objects ≡ false) ×
      ((u : UserType) → is_about u h (cond (is_wrong_pin v) (Some c) None) ≡ false)
  nothing_step c rv.Ok b is =
      let reads = (reading-alone h c b is).0 in
      (reads.sessions, reads.searches, reads.objects, λ u. refl)
  nothing_step c (rv.Error code) b is =
      (refl, refl, refl, λ u. nothing_refused code c u (operation_step c) refl is)

pub sessions-unchanged : (h : History) (e : Entry) (s : SessionsState)
    → change.Nothing ≡ effect h e.call e.reply
    → SessionsAgree h s → SessionsAgree (e ◁ h) s
sessions-unchanged h e s is agree =
    let n = nothing_step h e.call e.reply.rv e.reply.body is in
    sessions-left h s agree e n.0 n.1 n.3

pub objects-unchanged : (h : History) (e : Entry) (o : StoreState)
    → change.Nothing ≡ effect h e.call e.reply
    → StoreAgrees h o → StoreAgrees (e ◁ h) o
objects-unchanged h e o is agree =
    let n = nothing_step h e.call e.reply.rv e.reply.body is in
    objects-left h o agree e n.2

-- ---- a wrong try

module _ (h : History) where
  tried_done : (c : Call) (b : Body) (u : UserType) → change.WrongTry u ≡ change_of h c b → ⊥
  tried_done (call.InitToken pin) b u is = cc
  tried_done other b u is = cc

  tried_refusal : (code : RvError) (c : Call) (u : UserType)
      → change.WrongTry u ≡ wrong_try_change code (about h (Some c))
      → about h (cond (is_wrong_pin (rv.Error code)) (Some c) None) ≡ Some u
  tried_refusal rv_error.PinIncorrect c u is = tried (about h (Some c)) is
    where
      tried : (who : Option UserType)
          → change.WrongTry u ≡ wrong_try_change rv_error.PinIncorrect who → who ≡ Some u
      tried None is = cc
      tried (Some other) is = cc
  tried_refusal other c u is = cc

  tried_refused : (code : RvError) (c : Call) (u : UserType) (o : Option OperationStep)
      → change.WrongTry u ≡ refused_by o code (about h (Some c))
      → about h (cond (is_wrong_pin (rv.Error code)) (Some c) None) ≡ Some u
  tried_refused code c u None is = tried_refusal code c u is
  tried_refused code c u (Some o) is = absurd (step-no_try u o.kind o.session o.step code is)

  tried_step : (c : Call) (v : Rv) (b : Body) (u : UserType) → change.WrongTry u ≡ effect_by h c v b
      → (cond (is_ok v) (Some c) None ≡ None)
      × (about h (cond (is_wrong_pin v) (Some c) None) ≡ Some u)
  tried_step c rv.Ok b u is = absurd (tried_done c b u is)
  tried_step c (rv.Error code) b u is = (refl, tried_refused code c u (operation_step c) is)

-- nothing was done, and the user's PIN was tried
pub tried : (h : History) (e : Entry) (u : UserType) → change.WrongTry u ≡ effect h e.call e.reply
    → (done e ≡ None) × (about h (wrong_try e) ≡ Some u)
tried h e u is = tried_step h e.call e.reply.rv e.reply.body u is

pub objects-tried : (h : History) (e : Entry) (o : StoreState) → done e ≡ None → StoreAgrees h o
    → StoreAgrees (e ◁ h) o
objects-tried h e o none agree = objects-left h o agree e (ap (λ d. (effects_of d).objects) none)

-- ---- what the checks of a call say

-- a login that passes its checks names an open session and a user
pub login-passed : (limits : Ranges) (h : History) (session number : ℕ) (pin : Pin)
    → call_error limits h (call.Login session number pin) ≡ None
    → (is_open h session ≡ true) × (user_of number ≡ Some (unwrap_or (user_of number) user.User))
login-passed limits h session number pin e = (
  session-open h session (or_else-none (session_error h session) _ e).0,
  known (user_of number) (later-passes (session_error h session) _ e),
)
  where
    known : (who : Option UserType) → or_else (known_login_error limits h who pin) None ≡ None
        → who ≡ Some (unwrap_or who user.User)
    known None e = cc
    known (Some u) e = refl

object_case : (o : Option ℕ) (object : ℕ → Option (List Item)) (checks : List Item → Option RvError)
    → option_map_or checks (option_and_then object o) (Some rv_error.ObjectHandleInvalid) ≡ None
    → (o ≡ Some (unwrap_or o 0)) × (checks (unwrap_or (option_and_then object o) []) ≡ None)
object_case None object checks e = cc
object_case (Some n) object checks e = (refl, named (object n) e)
  where
    named : (a : Option (List Item)) → option_map_or checks a (Some rv_error.ObjectHandleInvalid)
        ≡ None
        → checks (unwrap_or a []) ≡ None
    named None e = cc
    named (Some attributes) e = e

-- a call on an object that passes its checks names one, which passes them
pub object-passed : (h : History) (session object : ℕ) (checks : List Item → Option RvError)
    → first_of (session_error h session ∷ object_error h object checks ∷ []) ≡ None
    → (object_named h object ≡ Some (unwrap_or (object_named h object) 0))
    × (checks (attributes_or_empty h object) ≡ None)
object-passed h session object checks e =
    object_case (object_named h object) (object_at h) checks
    (or_else-none (object_error h object checks) None
    (later-passes (session_error h session) _ e)).0

-- a change passes the checks of its template
pub change-passed : (limits : Ranges) (h : History) (session object : ℕ) (template : Template)
    → call_error limits h (call.SetAttributeValue session object template) ≡ None
    → (object_named h object ≡ Some (unwrap_or (object_named h object) 0))
    × (changed_error (class_of (attributes_or_empty h object))
    (protections_of (attributes_or_empty h object))
    template.items ≡ None)
change-passed limits h session object template e =
    let p = object-passed h session object _ e in
    let a = attributes_or_empty h object in (
      p.0,
      (or_else-none (changed_error (class_of a) (protections_of a) template.items) None
          (later-passes (prohibited_error attribute.Modifiable a) _
          (later-passes (read_only_session_error h session (placement_of a)) _ p.1))).0,
    )

pub destruction-passed : (limits : Ranges) (h : History) (session object : ℕ)
    → call_error limits h (call.DestroyObject session object) ≡ None
    → object_named h object ≡ Some (unwrap_or (object_named h object) 0)
destruction-passed limits h session object e = (object-passed h session object _ e).0

-- ---- keys

key_case : (o : Option ℕ) (object : ℕ → Option (List Item)) (checks : List Item → Option RvError)
    → option_map_or checks
    (option_and_then (λ a. if is_key a then Some a else None) (option_and_then object o))
    (Some rv_error.KeyHandleInvalid) ≡ None
    → (o ≡ Some (unwrap_or o 0)) × (checks (unwrap_or (option_and_then object o) []) ≡ None)
key_case None object checks e = cc
key_case (Some n) object checks e = (refl, named (object n) e)
  where
    tested : (a : List Item) (t : Bool)
        → option_map_or checks (cond t (Some a) None) (Some rv_error.KeyHandleInvalid) ≡ None
        → checks a ≡ None
    tested a true e = e
    tested a false e = cc

    named : (a : Option (List Item))
        → option_map_or checks (option_and_then (λ a. if is_key a then Some a else None) a)
        (Some rv_error.KeyHandleInvalid) ≡ None → checks (unwrap_or a []) ≡ None
    named None e = cc
    named (Some a) e = tested a (is_key a) e

-- a call on a key that passes its checks names one, which passes them
key-passed : (h : History) (key : ℕ) (checks : List Item → Option RvError)
    → or_else (key_error h key checks) None ≡ None
    → (object_named h key ≡ Some (unwrap_or (object_named h key) 0))
    × (checks (attributes_or_empty h key) ≡ None)
key-passed h key checks e =
    key_case (object_named h key) (object_at h) checks
    (or_else-none (key_error h key checks) None e).0

state-known : (before after : Option KeyState) → or_else (transition_error before after) None ≡ None
    → after ≡ Some (unwrap_or after state.Active)
state-known before None e = cc
state-known before (Some after) e = refl

-- a new state of a key is one, and the key is there
pub state-passed : (limits : Ranges) (h : History) (session key number : ℕ)
    → call_error limits h (call.SetKeyState session key number) ≡ None
    → (object_named h key ≡ Some (unwrap_or (object_named h key) 0))
    × (state_of_number number ≡ Some (unwrap_or (state_of_number number) state.Active))
state-passed limits h session key number e =
    let p = key-passed h key _ (later-passes (session_error h session) _ e) in
    let a = attributes_or_empty h key in (
      p.0,
      state-known (state_in a) (state_of_number number)
          (later-passes (read_only_session_error h session (placement_of a)) _ p.1),
    )

-- ---- starts

is_known : {A : Type 0} (found : Option A) (other : A) (code : RvError) (later : Option RvError)
    → or_else (error_if (is_none found) code) later ≡ None → found ≡ Some (unwrap_or found other)
is_known None other code later e = cc
is_known (Some a) other code later e = refl

-- a digest that starts had none before it, and its mechanism is a digest's
pub digest-passed : (limits : Ranges) (h : History) (session : ℕ) (mechanism : Mechanism)
    → call_error limits h (call.DigestInit session mechanism) ≡ None
    → (is_active kind.Digest h session ≡ false)
    × (digest_hash mechanism.kind ≡ Some (unwrap_or (digest_hash mechanism.kind) hash.Sha256))
digest-passed limits h session mechanism e =
    let idle = later-passes (session_error h session) _ e in
    let known =
    later-passes (error_if (is_active kind.Digest h session) rv_error.OperationActive) _ idle in (
      error_if-none (is_active kind.Digest h session) rv_error.OperationActive
          (or_else-none (error_if (is_active kind.Digest h session) rv_error.OperationActive) _
          idle).0,
      is_known (digest_hash mechanism.kind) hash.Sha256 rv_error.MechanismInvalid _ known,
    )

-- a signing or verifying that starts had none before it, its mechanism is an HMAC's, and its key is
-- there
pub hmac-passed : (k : OperationKind) (h : History) (session : ℕ) (mechanism : Mechanism) (key : ℕ)
    → hmac_init_error k h session mechanism key ≡ None
    → (is_active k h session ≡ false)
    × (hmac_hash mechanism.kind ≡ Some (unwrap_or (hmac_hash mechanism.kind) hash.Sha256))
    × (tag_length mechanism ≡ Some (unwrap_or (tag_length mechanism) 0))
    × (object_named h key ≡ Some (unwrap_or (object_named h key) 0))
hmac-passed k h session mechanism key e =
    let idle = later-passes (session_error h session) _ e in
    let known = later-passes (error_if (is_active k h session) rv_error.OperationActive) _ idle in
    let sized =
    later-passes
    (error_if (is_none (hmac_hash mechanism.kind)) rv_error.MechanismInvalid) _ known in
    let keyed =
    later-passes
    (error_if (is_none (tag_length mechanism)) rv_error.MechanismParamInvalid) _ sized in (
      error_if-none (is_active k h session) rv_error.OperationActive
          (or_else-none (error_if (is_active k h session) rv_error.OperationActive) _ idle).0,
      is_known (hmac_hash mechanism.kind) hash.Sha256 rv_error.MechanismInvalid _ known,
      is_known (tag_length mechanism) 0 rv_error.MechanismParamInvalid _ sized,
      (key-passed h key _ keyed).0,
    )

-- ---- a step on an operation

-- it changes the operations only
pub step-only : (h : History) (e : Entry) (o : OperationStep) → operation_step e.call ≡ Some o
    → (p : Parts) → PartsAgree h p → (q : OperationsState) → OperationsAgree (e ◁ h) q
    → PartsAgree (e ◁ h) (record p { operations = q })
step-only h e o is p agree q operations =
    let quiet = step-alone h e.call o is in
    record {
      sessions = sessions-left h _ agree.sessions e
          (of-done (λ d. (effects_of d).sessions) false e.call e.reply.rv quiet.sessions refl)
          (of-done (λ d. (effects_of d).searches) false e.call e.reply.rv quiet.searches refl)
          (nobody-tried h (is_wrong_pin e.reply.rv) e.call quiet.about);
      objects = objects-left h _ agree.objects e
          (of-done (λ d. (effects_of d).objects) false e.call e.reply.rv quiet.objects refl);
      operations = operations;
    }

-- one that ends its operation or leaves it changes nothing else
pub finish-only : (h : History) (e : Entry) (k : OperationKind) (session : ℕ) (last : Bool)
    → change.FinishOperation k session last ≡ effect h e.call e.reply
    → (p : Parts) → PartsAgree h p → (q : OperationsState)
    → (((l : OperationKind) (s : ℕ)
    → Does (cond (last && (same_kind k l && session == s)) End Stay) e l s)
    → OperationsAgree (e ◁ h) q)
    → PartsAgree (e ◁ h) (record p { operations = q })
finish-only h e k session last is p agree q moved =
    let f = finished-is h e.call e.reply.rv e.reply.body k session last is in
    step-only h e _ f.is p agree q
    (moved (finish-does h e.caller e.call e.reply.rv e.reply.body k session last f))

-- an HMAC by its parts
pub hmac-is : (made : Hash) (key : List ℕ) (len : ℕ) (mechanism : Mechanism) (value : List ℕ)
    → hmac_hash mechanism.kind ≡ Some made → key ≡ value → tag_length mechanism ≡ Some len
    → hmac_with mechanism value ≡ Some (hmac_by made key len)
hmac-is made key len mechanism value by same size = rw (by, same, size) refl
