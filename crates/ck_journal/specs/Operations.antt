-- Digests, signatures and verifications of sessions (PKCS #11 Base 3.0, Message digesting
-- functions, Signing and MACing functions, Functions for verifying signatures and MACs)
use Rattle.std.specs.Prelude.{ℕ, ◌^◌, Bool, true, false, List, [], ◌++◌, Option, Some, None}
use Rattle.std.specs.Prelude.{◌==◌, ◌&&◌, ◌||◌, not, nat_lt, length, bit_and}
use Rattle.std.specs.Prelude.{option_map, option_and_then, if◌then◌else◌}
use Rattle.std.specs.List.{concat}
use Rattle.ck_types.specs.Mechanisms.{digest_hash, hmac_hash, tag_length}
use Rattle.ck_objects.specs.Records.{key_value}
use Rattle.ck_types.specs.declared.errors.RvError.TheVariants as rv_error
use Rattle.ck_types.specs.declared.hashes.Hash.{Hash}
use Rattle.ck_types.specs.declared.mechanisms.Mechanism.{Mechanism}
use Rattle.ck_types.specs.declared.return_codes.Rv.{Rv}
use Rattle.ck_types.specs.declared.return_codes.Rv.TheVariants as rv
use Rattle.ck_mac.specs.Computations.{Computation, digest_by, hmac_by}
use Rattle.ck_journal.specs.declared.calls.Call.{Call}
use Rattle.ck_journal.specs.declared.calls.Call.TheVariants as call
use Rattle.ck_journal.specs.declared.calls.Entry.{Entry}
use Rattle.ck_journal.specs.declared.operations.OperationKind.{OperationKind}
use Rattle.ck_journal.specs.declared.operations.OperationKind.TheVariants as kind
use Rattle.ck_journal.specs.declared.replies.Body.{Body}
use Rattle.ck_journal.specs.declared.replies.Body.TheVariants as body
use Rattle.ck_journal.specs.declared.replies.Reply.{Reply}
use Rattle.ck_journal.specs.Histories.{History, start, ◌◁◌, done}
use Rattle.ck_journal.specs.Objects.{object_named, attributes_or_empty}
use Rattle.ck_journal.specs.OperationCalls.{Step, initialize, single_part, add_piece, finish}
use Rattle.ck_journal.specs.OperationCalls.{step_of, piece_in}
use Rattle.ck_journal.specs.Sessions.{ends_operations}

-- ---- whether one is active

abbrev pub is_initialization : Option Step → Bool
is_initialization (Some initialize) = true
is_initialization other = false

-- the call starts an operation of the kind in the session
abbrev pub starts : Option Call → OperationKind → ℕ → Bool
starts None k s = false
starts (Some c) k s = is_initialization (step_of c k s)

-- by this code and body, a call that would finish an operation leaves it active: the room is too
-- small, or only the length was asked for
abbrev pub leaves_active : Rv → Body → Bool
leaves_active (rv.Error rv_error.BufferTooSmall) given = true
leaves_active rv.Ok (body.Length n) = true
leaves_active other given = false

abbrev pub is_data_len_range : Rv → Bool
is_data_len_range (rv.Error rv_error.DataLenRange) = true
is_data_len_range other = false

-- a step ends the operation by this reply. One that takes in a single-part message or finishes a
-- multiple-part one does, unless the reply leaves it active, which no reply to a verification does.
-- One that adds a piece does where the piece is refused as too long.
abbrev pub ends_by : Option Step → Reply → Bool
ends_by (Some (single_part bytes)) reply = not (leaves_active reply.rv reply.body)
ends_by (Some finish) reply = not (leaves_active reply.rv reply.body)
ends_by (Some (add_piece bytes)) reply = is_data_len_range reply.rv
ends_by other reply = false

-- the call ends the session's operation of the kind by this reply
abbrev pub finishes : Call → OperationKind → Reply → ℕ → Bool
finishes c k reply s = ends_by (step_of c k s) reply

-- the flag by which C_SessionCancel names operations of the kind (CKF_DIGEST, CKF_SIGN, CKF_VERIFY)
abbrev pub kind_flag : OperationKind → ℕ
kind_flag kind.Digest = 0x400
kind_flag kind.Sign = 0x800
kind_flag kind.Verify = 0x2000

abbrev pub names_kind : ℕ → OperationKind → Bool
names_kind flags k = not (bit_and flags (kind_flag k) == 0)

-- the call cancels the session's operation of the kind
abbrev pub cancels : Option Call → OperationKind → ℕ → Bool
cancels (Some (call.SessionCancel session flags)) k s = session == s && names_kind flags k
cancels other k s = false

-- the entry ends the session's operation of the kind
abbrev pub ends : OperationKind → Entry → ℕ → Bool
ends k e s = ends_operations (done e) s || cancels (done e) k s || finishes e.call k e.reply s

-- an operation of the kind is active in the session: one was started, and no later entry ended it
abbrev pub is_active : OperationKind → History → ℕ → Bool
is_active k (start b) s = false
is_active k (e ◁ h) s =
    if starts (done e) k s then true
    else if ends k e s then false
    else is_active k h s

-- ---- what it computes

-- the first n bytes of the HMAC by a hash function, where both are given
abbrev pub hmac_of : Option Hash → Option ℕ → List ℕ → Option Computation
hmac_of (Some hash) (Some n) key = Some (hmac_by hash key n)
hmac_of hash n key = None

-- what a mechanism computes under a key with these bytes, where it is an HMAC's and its parameter
-- is as it must be
abbrev pub hmac_with : Mechanism → List ℕ → Option Computation
hmac_with mechanism key = hmac_of (hmac_hash mechanism.kind) (tag_length mechanism) key

-- what a call starts to compute, by the history just before it
abbrev pub started_computation : History → Option Call → Option Computation
started_computation h (Some (call.DigestInit session mechanism)) =
    option_map digest_by (digest_hash mechanism.kind)
started_computation h (Some (call.SignInit session mechanism key)) =
    hmac_with mechanism (key_value (attributes_or_empty h key))
started_computation h (Some (call.VerifyInit session mechanism key)) =
    hmac_with mechanism (key_value (attributes_or_empty h key))
started_computation h other = None

-- what the session's last operation of the kind computes; no call changes the value of a key, so it
-- is by the key as it was when the operation started
abbrev pub computation_in : OperationKind → History → ℕ → Option Computation
computation_in k (start b) s = None
computation_in k (e ◁ h) s =
    if starts (done e) k s then started_computation h (done e) else computation_in k h s

-- the handle of the key that a call starts an operation with
abbrev pub init_key : Option Call → Option ℕ
init_key (Some (call.SignInit session mechanism key)) = Some key
init_key (Some (call.VerifyInit session mechanism key)) = Some key
init_key other = None

-- the number of the key of the session's last operation of the kind; a digest has none
abbrev pub key_in : OperationKind → History → ℕ → Option ℕ
key_in k (start b) s = None
key_in k (e ◁ h) s =
    if starts (done e) k s then option_and_then (object_named h) (init_key (done e))
    else key_in k h s

-- ---- its message

-- the piece that a call adds to the message of the session's operation of the kind, in a list of
-- its own
abbrev pub piece_of : Option Call → OperationKind → ℕ → List (List ℕ)
piece_of None k s = []
piece_of (Some c) k s = piece_in (step_of c k s)

-- the pieces of the session's last operation of the kind, in their order
abbrev pub pieces_in : OperationKind → History → ℕ → List (List ℕ)
pieces_in k (start b) s = []
pieces_in k (e ◁ h) s = if starts (done e) k s then [] else pieces_in k h s ++ piece_of (done e) k s

-- there was an update, even if of no bytes
abbrev pub is_updated : OperationKind → History → ℕ → Bool
is_updated k h s = not (length (pieces_in k h s) == 0)

abbrev pub message_in : OperationKind → History → ℕ → List ℕ
message_in k h s = concat (pieces_in k h s)

-- the most bytes of a single-part message, and of a piece of a multiple-part one
abbrev pub piece_limit : ℕ
piece_limit = 2 ^ 20

abbrev pub is_too_long : List ℕ → Bool
is_too_long bytes = nat_lt piece_limit (length bytes)
