-- What each call answers, read off the history just before it: a list of checks, of which the first
-- that fails gives the code, and the reply where none does. Who calls makes no difference.
use Rattle.std.specs.Prelude.{◌≡◌, ℕ, suc, Bool, true, false, List, [], ◌∷◌, Option, Some, None}
use Rattle.std.specs.Prelude.{◌==◌, ◌&&◌, not, is_none, is_some, nat_le, nat_lt, length, map, take}
use Rattle.std.specs.Prelude.{bit_and, if◌then◌else◌}
use Rattle.std.specs.List.{list_any}
use Rattle.std.specs.Option.{option_map_or}
use Rattle.ck_types.specs.Checks.{error_if, first_of}
use Rattle.ck_objects.specs.KeyStates.{state_of_number, may_become, may_sign, may_verify}
use Rattle.ck_types.specs.Mechanisms.{mechanism_types, digest_hash, hmac_hash, tag_length}
use Rattle.ck_types.specs.Mechanisms.{is_key_generator}
use Rattle.ck_types.specs.Pins.{fits_a_pin}
use Rattle.ck_objects.specs.Records.{created_items, generated_items, with_given, is_set, state_in}
use Rattle.ck_objects.specs.Records.{protections_of, placement_of, copied_error, changed_error}
use Rattle.ck_objects.specs.Templates.{class_of, created_error, generated_error}
use Rattle.ck_types.specs.TokenFlagBits.{token_flags}
use Rattle.ck_types.specs.TokenLimits.{Ranges}
use Rattle.ck_types.specs.Users.{user_of, same_user}
use Rattle.ck_objects.specs.declared.attributes.Attribute.{Attribute}
use Rattle.ck_objects.specs.declared.attributes.Attribute.TheVariants as attribute
use Rattle.ck_types.specs.declared.errors.RvError.{RvError}
use Rattle.ck_types.specs.declared.errors.RvError.TheVariants as rv_error
use Rattle.ck_objects.specs.declared.items.Item.{Item}
use Rattle.ck_objects.specs.declared.key_states.KeyState.{KeyState}
use Rattle.ck_types.specs.declared.mechanisms.Mechanism.{Mechanism}
use Rattle.ck_objects.specs.declared.object_flags.Placement.{Placement}
use Rattle.ck_types.specs.declared.pins.Pin.{Pin}
use Rattle.ck_types.specs.declared.return_codes.Rv.TheVariants as rv
use Rattle.ck_types.specs.declared.token_flags.TokenFlags.{TokenFlags}
use Rattle.ck_types.specs.declared.users.SessionState.{SessionState}
use Rattle.ck_types.specs.declared.users.SessionState.TheVariants as state
use Rattle.ck_types.specs.declared.users.UserType.{UserType}
use Rattle.ck_types.specs.declared.users.UserType.TheVariants as user
use Rattle.ck_mac.specs.Computations.{tag_of}
use Rattle.ck_mac.specs.Macs.{signature_error}
use Rattle.ck_journal.specs.declared.calls.Call.{Call}
use Rattle.ck_journal.specs.declared.calls.Call.TheVariants as call
use Rattle.ck_journal.specs.declared.operations.OperationKind.{OperationKind}
use Rattle.ck_journal.specs.declared.operations.OperationKind.TheVariants as kind
use Rattle.ck_journal.specs.declared.replies.Body.{Body}
use Rattle.ck_journal.specs.declared.replies.Body.TheVariants as body
use Rattle.ck_journal.specs.declared.replies.Reply.{Reply}
use Rattle.ck_journal.specs.Histories.{History, start, ◌◁◌}
use Rattle.ck_journal.specs.Objects.{creations, view_of, is_user_in, handle_with, handle_of}
use Rattle.ck_journal.specs.Objects.{object_at, attributes_named, attributes_or_empty, key_named}
use Rattle.ck_journal.specs.Operations.{is_active, is_updated, is_too_long, key_in}
use Rattle.ck_journal.specs.Operations.{computation_in, message_in}
use Rattle.ck_journal.specs.Pins.{is_initialized, is_pin, pin_owner, present_pin, user_pin}
use Rattle.ck_journal.specs.Pins.{tries, is_locked, is_user}
use Rattle.ck_journal.specs.Queries.{queries_reply}
use Rattle.ck_journal.specs.Searches.{is_searching, search_rest}
use Rattle.ck_journal.specs.Sessions.{openings, is_open, flags_of, open_sessions, has_rw_flag}
use Rattle.ck_journal.specs.Sessions.{is_read_write, rw_sessions, login, user_logins, state_of}

-- ---- replies

abbrev pub ok : Body → Reply
ok body = record { rv = rv.Ok; body = body }

abbrev pub refusal : RvError → Reply
refusal code = record { rv = rv.Error code; body = body.Empty }

-- the refusal where there is an error, else this reply
abbrev pub unless : Option RvError → Reply → Reply
unless None reply = reply
unless (Some code) reply = refusal code

-- ---- checks

abbrev pub is_so_state : SessionState → Bool
is_so_state state.RwSo = true
is_so_state other = false

abbrev pub session_error : History → ℕ → Option RvError
session_error h session = error_if (not (is_open h session)) rv_error.SessionHandleInvalid

-- this user is locked, or the PIN isn't this user's
abbrev pub pin_error : UserType → History → Pin → Option RvError
pin_error u h pin = first_of (
    error_if (is_locked u h) rv_error.PinLocked
    ∷ error_if (not (is_pin (present_pin u h) pin)) rv_error.PinIncorrect
    ∷ [])

-- the first initialization takes any PIN of 4 to 64 bytes; a later one must be given the security
-- officer's PIN
abbrev pub init_token_error : History → Pin → Option RvError
init_token_error h pin = first_of (
    error_if (not (length (open_sessions h) == 0)) rv_error.SessionExists
    ∷ (if is_initialized h then pin_error user.So h pin
    else error_if (not (fits_a_pin pin)) rv_error.PinLenRange)
    ∷ [])

abbrev pub init_pin_error : History → ℕ → Pin → Option RvError
init_pin_error h session pin = first_of (
    session_error h session
    ∷ error_if (not (is_so_state (state_of h session))) rv_error.UserNotLoggedIn
    ∷ error_if (not (fits_a_pin pin)) rv_error.PinLenRange
    ∷ [])

abbrev pub set_pin_error : History → ℕ → Pin → Pin → Option RvError
set_pin_error h session old new =
    let owner = pin_owner (state_of h session) in
    first_of (
    session_error h session
    ∷ error_if (not (is_read_write h session)) rv_error.SessionReadOnly
    ∷ error_if (is_none (present_pin owner h)) rv_error.UserPinNotInitialized
    ∷ error_if (is_locked owner h) rv_error.PinLocked
    ∷ error_if (not (fits_a_pin new)) rv_error.PinLenRange
    ∷ error_if (not (is_pin (present_pin owner h) old)) rv_error.PinIncorrect
    ∷ [])

-- CKF_SERIAL_SESSION is 4, CKF_RW_SESSION is 2
abbrev pub open_session_error : Ranges → History → ℕ → Option RvError
open_session_error limits h flags = first_of (
    error_if (not (is_initialized h)) rv_error.TokenNotRecognized
    ∷ error_if (bit_and flags 4 == 0) rv_error.SessionParallelNotSupported
    ∷ error_if (not (bit_and flags 6 == flags)) rv_error.ArgumentsBad
    ∷ error_if (not (has_rw_flag flags) && is_user user.So (login h))
    rv_error.SessionReadWriteSoExists
    ∷ error_if (nat_le limits.sessions (length (open_sessions h))) rv_error.SessionCount
    ∷ error_if (nat_le limits.openings (openings h)) rv_error.DeviceMemory
    ∷ [])

-- somebody is logged in: the user who would log in, or the other one
abbrev pub logged_in_error : UserType → Option UserType → Option RvError
logged_in_error u None = None
logged_in_error u (Some other) =
    Some (if same_user u other then rv_error.UserAlreadyLoggedIn
    else rv_error.UserAnotherAlreadyLoggedIn)

-- the security officer would log in while a read-only session is open
abbrev pub read_only_error : UserType → History → Option RvError
read_only_error user.So h =
    error_if (list_any (λ s. not (is_read_write h s)) (open_sessions h))
    rv_error.SessionReadOnlyExists
read_only_error user.User h = None

abbrev pub logins_error : Ranges → UserType → History → Option RvError
logins_error limits user.So h = None
logins_error limits user.User h =
    error_if (nat_le limits.logins (user_logins h)) rv_error.DeviceMemory

abbrev pub user_login_error : Ranges → History → UserType → Pin → Option RvError
user_login_error limits h u pin = first_of (
    logged_in_error u (login h)
    ∷ read_only_error u h
    ∷ error_if (is_none (present_pin u h)) rv_error.UserPinNotInitialized
    ∷ pin_error u h pin
    ∷ logins_error limits u h
    ∷ [])

abbrev pub known_login_error : Ranges → History → Option UserType → Pin → Option RvError
known_login_error limits h None pin = Some rv_error.UserTypeInvalid
known_login_error limits h (Some u) pin = user_login_error limits h u pin

abbrev pub login_error : Ranges → History → ℕ → ℕ → Pin → Option RvError
login_error limits h session user pin = first_of (
    session_error h session
    ∷ known_login_error limits h (user_of user) pin
    ∷ [])

abbrev pub logout_error : History → ℕ → Option RvError
logout_error h session = first_of (
    session_error h session
    ∷ error_if (is_none (login h)) rv_error.UserNotLoggedIn
    ∷ [])

-- a token object would be created, changed or ended in a read-only session
abbrev pub read_only_session_error : History → ℕ → Placement → Option RvError
read_only_session_error h session placement =
    error_if (placement.token && not (is_read_write h session)) rv_error.SessionReadOnly

-- where a new object may not stand: a token object in a read-only session, a private one where the
-- normal user isn't logged in
abbrev pub placement_error : History → ℕ → Placement → Option RvError
placement_error h session placement = first_of (
    read_only_session_error h session placement
    ∷ error_if (placement.private && not (is_user_in h)) rv_error.UserNotLoggedIn
    ∷ [])

abbrev pub creations_error : Ranges → History → Option RvError
creations_error limits h = error_if (nat_le limits.creations (creations h)) rv_error.DeviceMemory

abbrev pub create_object_error : Ranges → History → ℕ → List Item → Option RvError
create_object_error limits h session template = first_of (
    session_error h session
    ∷ created_error template
    ∷ placement_error h session (placement_of (created_items template))
    ∷ creations_error limits h
    ∷ [])

-- the error of these checks of the attributes of the object that the handle names, where it names
-- one
abbrev pub object_error : History → ℕ → (List Item → Option RvError) → Option RvError
object_error h handle checks =
    option_map_or checks (attributes_named h handle) (Some rv_error.ObjectHandleInvalid)

-- CKA_COPYABLE, CKA_MODIFIABLE or CKA_DESTROYABLE is false
abbrev pub prohibited_error : Attribute → List Item → Option RvError
prohibited_error flag attributes = error_if (not (is_set attributes flag)) rv_error.ActionProhibited

-- a copy of an object with these attributes
abbrev pub copy_error : Ranges → History → ℕ → List Item → List Item → Option RvError
copy_error limits h session template source = first_of (
    prohibited_error attribute.Copyable source
    ∷ copied_error (class_of source) (protections_of source) template
    ∷ placement_error h session (placement_of (with_given template source))
    ∷ creations_error limits h
    ∷ [])

abbrev pub copy_object_error : Ranges → History → ℕ → ℕ → List Item → Option RvError
copy_object_error limits h session object template = first_of (
    session_error h session
    ∷ object_error h object (copy_error limits h session template)
    ∷ [])

abbrev pub get_attribute_value_error : History → ℕ → ℕ → Option RvError
get_attribute_value_error h session object = first_of (
    session_error h session
    ∷ object_error h object (λ attributes. None)
    ∷ [])

-- a change of an object with these attributes
abbrev pub change_error : History → ℕ → List Item → List Item → Option RvError
change_error h session template attributes = first_of (
    read_only_session_error h session (placement_of attributes)
    ∷ prohibited_error attribute.Modifiable attributes
    ∷ changed_error (class_of attributes) (protections_of attributes) template
    ∷ [])

abbrev pub set_attribute_value_error : History → ℕ → ℕ → List Item → Option RvError
set_attribute_value_error h session object template = first_of (
    session_error h session
    ∷ object_error h object (change_error h session template)
    ∷ [])

-- the end of an object with these attributes
abbrev pub destruction_error : History → ℕ → List Item → Option RvError
destruction_error h session attributes = first_of (
    read_only_session_error h session (placement_of attributes)
    ∷ prohibited_error attribute.Destroyable attributes
    ∷ [])

abbrev pub destroy_object_error : History → ℕ → ℕ → Option RvError
destroy_object_error h session object = first_of (
    session_error h session
    ∷ object_error h object (destruction_error h session)
    ∷ [])

abbrev pub find_objects_init_error : History → ℕ → Option RvError
find_objects_init_error h session = first_of (
    session_error h session
    ∷ error_if (is_searching h session) rv_error.OperationActive
    ∷ [])

-- the error of a call that goes on with a session's search
abbrev pub search_error : History → ℕ → Option RvError
search_error h session = first_of (
    session_error h session
    ∷ error_if (not (is_searching h session)) rv_error.OperationNotInitialized
    ∷ [])

-- no operation of the kind is active in the session, which a call would go on with
abbrev pub operation_error : OperationKind → History → ℕ → Option RvError
operation_error k h session = first_of (
    session_error h session
    ∷ error_if (not (is_active k h session)) rv_error.OperationNotInitialized
    ∷ [])

-- the mechanism has a parameter, which it may not have
abbrev pub parameter_error : Mechanism → Option RvError
parameter_error mechanism =
    error_if (not (length mechanism.parameter == 0)) rv_error.MechanismParamInvalid

-- the start of a digest: another is active, or the mechanism is no digest's or has a parameter
abbrev pub digest_init_error : History → ℕ → Mechanism → Option RvError
digest_init_error h session mechanism = first_of (
    session_error h session
    ∷ error_if (is_active kind.Digest h session) rv_error.OperationActive
    ∷ error_if (is_none (digest_hash mechanism.kind)) rv_error.MechanismInvalid
    ∷ parameter_error mechanism
    ∷ [])

-- ---- checks of keys

-- the error of these checks of the attributes of the key that the handle names, where it names one
abbrev pub key_error : History → ℕ → (List Item → Option RvError) → Option RvError
key_error h handle checks =
    option_map_or checks (key_named h handle) (Some rv_error.KeyHandleInvalid)

-- a key of this state may do what operations of the kind do; a digest has no key
abbrev pub may_serve : OperationKind → KeyState → Bool
may_serve kind.Digest s = true
may_serve kind.Sign s = may_sign s
may_serve kind.Verify s = may_verify s

abbrev pub key_state_error : OperationKind → List Item → Option RvError
key_state_error k attributes =
    error_if (not (option_map_or (may_serve k) (state_in attributes) false))
    rv_error.KeyFunctionNotPermitted

-- the flag of a key that lets operations of the kind use it; a digest has no key, so nothing asks
-- for its flag
abbrev pub usage_flag : OperationKind → Attribute
usage_flag kind.Digest = attribute.Sign
usage_flag kind.Sign = attribute.Sign
usage_flag kind.Verify = attribute.Verify

-- the flag of a key, and then its state, forbid operations of the kind
abbrev pub usage_error : OperationKind → List Item → Option RvError
usage_error k attributes = first_of (
    error_if (not (is_set attributes (usage_flag k))) rv_error.KeyFunctionNotPermitted
    ∷ key_state_error k attributes
    ∷ [])

-- the start of a signature or a verification: another of the kind is active, the mechanism is no
-- HMAC's, its parameter isn't as it must be, or the key may not be used
abbrev pub hmac_init_error : OperationKind → History → ℕ → Mechanism → ℕ → Option RvError
hmac_init_error k h session mechanism key = first_of (
    session_error h session
    ∷ error_if (is_active k h session) rv_error.OperationActive
    ∷ error_if (is_none (hmac_hash mechanism.kind)) rv_error.MechanismInvalid
    ∷ error_if (is_none (tag_length mechanism)) rv_error.MechanismParamInvalid
    ∷ key_error h key (usage_error k)
    ∷ [])

-- the key of an operation, if it has one, has ended, or is no longer of a state that serves
abbrev pub present_key_error : OperationKind → History → Option ℕ → Option RvError
present_key_error k h None = None
present_key_error k h (Some n) =
    option_map_or (key_state_error k) (object_at h n) (Some rv_error.KeyHandleInvalid)

abbrev pub piece_error : List ℕ → Option RvError
piece_error bytes = error_if (is_too_long bytes) rv_error.DataLenRange

-- a single-part message; a message that an update has begun is finished only by the kind's final
-- call
abbrev pub message_error : OperationKind → History → ℕ → List ℕ → Option RvError
message_error k h session bytes = first_of (
    operation_error k h session
    ∷ error_if (is_updated k h session) rv_error.OperationNotInitialized
    ∷ piece_error bytes
    ∷ present_key_error k h (key_in k h session)
    ∷ [])

-- a piece of a multiple-part message
abbrev pub update_error : OperationKind → History → ℕ → List ℕ → Option RvError
update_error k h session bytes = first_of (
    operation_error k h session
    ∷ piece_error bytes
    ∷ [])

-- the end of a multiple-part message
abbrev pub final_error : OperationKind → History → ℕ → Option RvError
final_error k h session = first_of (
    operation_error k h session
    ∷ present_key_error k h (key_in k h session)
    ∷ [])

-- the tag of a message by the session's operation of the kind; [] where it computes nothing, which
-- no call that passes its checks meets
abbrev pub tag_in : OperationKind → History → ℕ → List ℕ → List ℕ
tag_in k h session message =
    option_map_or (λ computation. tag_of computation message) (computation_in k h session) []

abbrev pub verify_error : History → ℕ → List ℕ → List ℕ → Option RvError
verify_error h session bytes signature = first_of (
    message_error kind.Verify h session bytes
    ∷ signature_error (tag_in kind.Verify h session bytes) signature
    ∷ [])

abbrev pub verify_final_error : History → ℕ → List ℕ → Option RvError
verify_final_error h session signature = first_of (
    final_error kind.Verify h session
    ∷ signature_error (tag_in kind.Verify h session (message_in kind.Verify h session)) signature
    ∷ [])

-- the flags have bits other than CKF_DIGEST (0x400), CKF_SIGN (0x800) and CKF_VERIFY (0x2000)
abbrev pub session_cancel_error : History → ℕ → ℕ → Option RvError
session_cancel_error h session flags = first_of (
    session_error h session
    ∷ error_if (not (bit_and flags 0x2c00 == flags)) rv_error.ArgumentsBad
    ∷ [])

abbrev pub generate_key_error :
    Ranges → History → ℕ → Mechanism → List Item → List ℕ → Option RvError
generate_key_error limits h session mechanism template random = first_of (
    session_error h session
    ∷ error_if (not (is_key_generator mechanism.kind)) rv_error.MechanismInvalid
    ∷ parameter_error mechanism
    ∷ generated_error template random
    ∷ placement_error h session (placement_of (generated_items template random))
    ∷ creations_error limits h
    ∷ [])

-- no state has this number, or a key of the state before may not go over to it
abbrev pub transition_error : Option KeyState → Option KeyState → Option RvError
transition_error before None = Some rv_error.ArgumentsBad
transition_error before (Some after) =
    error_if (not (option_map_or (λ s. may_become s after) before false))
    rv_error.ActionProhibited

-- the change of the state of a key with these attributes
abbrev pub state_change_error : History → ℕ → ℕ → List Item → Option RvError
state_change_error h session number attributes = first_of (
    read_only_session_error h session (placement_of attributes)
    ∷ transition_error (state_in attributes) (state_of_number number)
    ∷ [])

abbrev pub set_key_state_error : History → ℕ → ℕ → ℕ → Option RvError
set_key_state_error h session key number = first_of (
    session_error h session
    ∷ key_error h key (state_change_error h session number)
    ∷ [])

-- ---- the answer

-- the error of a call: that of the first of its checks that fails
abbrev pub call_error : Ranges → History → Call → Option RvError
call_error limits h (call.InitToken pin) = init_token_error h pin
call_error limits h (call.InitPin session pin) = init_pin_error h session pin
call_error limits h (call.SetPin session old new) = set_pin_error h session old new
call_error limits h (call.OpenSession flags) = open_session_error limits h flags
call_error limits h (call.CloseSession session) = session_error h session
call_error limits h call.CloseAllSessions = None
call_error limits h (call.Login session user pin) = login_error limits h session user pin
call_error limits h (call.Logout session) = logout_error h session
call_error limits h (call.GetSessionInfo session) = session_error h session
call_error limits h (call.SessionCancel session flags) = session_cancel_error h session flags
call_error limits h call.GetTokenInfo = None
call_error limits h call.GetMechanismList = None
call_error limits h (call.CreateObject session template) =
    create_object_error limits h session template.items
call_error limits h (call.GenerateKey session mechanism template random) =
    generate_key_error limits h session mechanism template.items random
call_error limits h (call.CopyObject session object template) =
    copy_object_error limits h session object template.items
call_error limits h (call.GetAttributeValue session object queries) =
    get_attribute_value_error h session object
call_error limits h (call.SetAttributeValue session object template) =
    set_attribute_value_error h session object template.items
call_error limits h (call.SetKeyState session key number) =
    set_key_state_error h session key number
call_error limits h (call.DestroyObject session object) = destroy_object_error h session object
call_error limits h (call.FindObjectsInit session template) = find_objects_init_error h session
call_error limits h (call.FindObjects session max) = search_error h session
call_error limits h (call.FindObjectsFinal session) = search_error h session
call_error limits h (call.DigestInit session mechanism) = digest_init_error h session mechanism
call_error limits h (call.Digest session bytes room) = message_error kind.Digest h session bytes
call_error limits h (call.DigestUpdate session bytes) = update_error kind.Digest h session bytes
call_error limits h (call.DigestFinal session room) = final_error kind.Digest h session
call_error limits h (call.SignInit session mechanism key) =
    hmac_init_error kind.Sign h session mechanism key
call_error limits h (call.Sign session bytes room) = message_error kind.Sign h session bytes
call_error limits h (call.SignUpdate session bytes) = update_error kind.Sign h session bytes
call_error limits h (call.SignFinal session room) = final_error kind.Sign h session
call_error limits h (call.VerifyInit session mechanism key) =
    hmac_init_error kind.Verify h session mechanism key
call_error limits h (call.Verify session bytes signature) = verify_error h session bytes signature
call_error limits h (call.VerifyUpdate session bytes) = update_error kind.Verify h session bytes
call_error limits h (call.VerifyFinal session signature) = verify_final_error h session signature

-- the handle of a new object with these attributes
abbrev pub new_handle : History → List Item → ℕ
new_handle h attributes = handle_with (view_of h) attributes (suc (creations h))

-- the flags that C_GetTokenInfo gives
abbrev pub flags_of_token : History → TokenFlags
flags_of_token h =
    record {
      0 = token_flags (is_initialized h) (is_some (user_pin h)) (tries user.User h)
          (tries user.So h);
    }

abbrev pub too_small : ℕ → Reply
too_small n = record { rv = rv.Error rv_error.BufferTooSmall; body = body.Length n }

-- the reply that gives these bytes where there is room for them, and else their length; where no
-- room is given, their length is asked for
abbrev pub bytes_reply : Option ℕ → List ℕ → Reply
bytes_reply None bytes = ok (body.Length (length bytes))
bytes_reply (Some room) bytes =
    if nat_lt room (length bytes) then too_small (length bytes) else ok (body.Bytes bytes)

-- the reply to a call that passes its checks
abbrev pub allowed_reply : Ranges → History → Call → Reply
allowed_reply limits h (call.InitToken pin) = ok body.Empty
allowed_reply limits h (call.InitPin session pin) = ok body.Empty
allowed_reply limits h (call.SetPin session old new) = ok body.Empty
allowed_reply limits h (call.OpenSession flags) = ok (body.Handle (suc (openings h)))
allowed_reply limits h (call.CloseSession session) = ok body.Empty
allowed_reply limits h call.CloseAllSessions = ok body.Empty
allowed_reply limits h (call.Login session user pin) = ok body.Empty
allowed_reply limits h (call.Logout session) = ok body.Empty
allowed_reply limits h (call.GetSessionInfo session) =
    ok (body.Session (state_of h session) (flags_of h session))
allowed_reply limits h (call.SessionCancel session flags) = ok body.Empty
allowed_reply limits h call.GetTokenInfo =
    ok (body.Token (flags_of_token h) limits.sessions (length (open_sessions h))
    (length (rw_sessions h)))
allowed_reply limits h call.GetMechanismList = ok (body.Mechanisms mechanism_types)
allowed_reply limits h (call.CreateObject session template) =
    ok (body.Handle (new_handle h (created_items template.items)))
allowed_reply limits h (call.GenerateKey session mechanism template random) =
    ok (body.Handle (new_handle h (generated_items template.items random)))
allowed_reply limits h (call.CopyObject session object template) =
    ok (body.Handle (new_handle h (with_given template.items (attributes_or_empty h object))))
allowed_reply limits h (call.GetAttributeValue session object queries) =
    queries_reply (attributes_or_empty h object) queries
allowed_reply limits h (call.SetAttributeValue session object template) = ok body.Empty
allowed_reply limits h (call.SetKeyState session key number) = ok body.Empty
allowed_reply limits h (call.DestroyObject session object) = ok body.Empty
allowed_reply limits h (call.FindObjectsInit session template) = ok body.Empty
allowed_reply limits h (call.FindObjects session max) =
    ok (body.Handles (map (handle_of h) (take max (search_rest h session))))
allowed_reply limits h (call.FindObjectsFinal session) = ok body.Empty
allowed_reply limits h (call.DigestInit session mechanism) = ok body.Empty
allowed_reply limits h (call.Digest session bytes room) =
    bytes_reply room (tag_in kind.Digest h session bytes)
allowed_reply limits h (call.DigestUpdate session bytes) = ok body.Empty
allowed_reply limits h (call.DigestFinal session room) =
    bytes_reply room (tag_in kind.Digest h session (message_in kind.Digest h session))
allowed_reply limits h (call.SignInit session mechanism key) = ok body.Empty
allowed_reply limits h (call.Sign session bytes room) =
    bytes_reply room (tag_in kind.Sign h session bytes)
allowed_reply limits h (call.SignUpdate session bytes) = ok body.Empty
allowed_reply limits h (call.SignFinal session room) =
    bytes_reply room (tag_in kind.Sign h session (message_in kind.Sign h session))
allowed_reply limits h (call.VerifyInit session mechanism key) = ok body.Empty
allowed_reply limits h (call.Verify session bytes signature) = ok body.Empty
allowed_reply limits h (call.VerifyUpdate session bytes) = ok body.Empty
allowed_reply limits h (call.VerifyFinal session signature) = ok body.Empty

abbrev pub answer : Ranges → History → Call → Reply
answer limits h c = unless (call_error limits h c) (allowed_reply limits h c)

-- every reply is the answer at the front just before it
abbrev pub IsLegal : Ranges → History → Type 0
IsLegal limits (start b) = Unit {0}
IsLegal limits (e ◁ h) = (e.reply ≡ answer limits h e.call) × IsLegal limits h
