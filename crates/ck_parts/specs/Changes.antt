-- What an answered call changes of sessions, objects and operations, read off the history just
-- before it. In a legal history no default of an `unwrap_or` is met here: the call's checks see to
-- that.
use Rattle.std.specs.Prelude.{ℕ, true, not, Option, Some, None, map, unwrap_or}
use Rattle.ck_objects.specs.KeyStates.{state_of_number}
use Rattle.ck_types.specs.Mechanisms.{digest_hash, hmac_hash, tag_length}
use Rattle.ck_objects.specs.Records.{created_items, generated_items, with_given}
use Rattle.ck_types.specs.Users.{user_of}
use Rattle.ck_types.specs.declared.return_codes.Rv.{Rv}
use Rattle.ck_types.specs.declared.return_codes.Rv.TheVariants as rv
use Rattle.ck_types.specs.declared.errors.RvError.{RvError}
use Rattle.ck_types.specs.declared.errors.RvError.TheVariants as rv_error
use Rattle.ck_types.specs.declared.hashes.Hash.TheVariants as hash
use Rattle.ck_objects.specs.declared.key_states.KeyState.TheVariants as state
use Rattle.ck_types.specs.declared.mechanisms.Mechanism.{Mechanism}
use Rattle.ck_types.specs.declared.users.UserType.{UserType}
use Rattle.ck_types.specs.declared.users.UserType.TheVariants as user
use Rattle.ck_journal.specs.declared.calls.Call.{Call}
use Rattle.ck_journal.specs.declared.calls.Call.TheVariants as call
use Rattle.ck_journal.specs.declared.operations.OperationKind.{OperationKind}
use Rattle.ck_journal.specs.declared.operations.OperationKind.TheVariants as kind
use Rattle.ck_journal.specs.declared.replies.Body.{Body}
use Rattle.ck_journal.specs.declared.replies.Body.TheVariants as body
use Rattle.ck_journal.specs.declared.replies.Reply.{Reply}
use Rattle.ck_journal.specs.Histories.{History}
use Rattle.ck_journal.specs.Objects.{object_named, attributes_or_empty}
use Rattle.ck_journal.specs.OperationCalls.{Step, initialize, add_piece, OperationStep}
use Rattle.ck_journal.specs.OperationCalls.{operation_step}
use Rattle.ck_journal.specs.Operations.{leaves_active}
use Rattle.ck_journal.specs.Pins.{pin_owner, about}
use Rattle.ck_journal.specs.Searches.{matching_objects, last_number, last_or, number_of_handle}
use Rattle.ck_journal.specs.Searches.{handles_in}
use Rattle.ck_journal.specs.Sessions.{state_of}
use Rattle.ck_parts.specs.declared.changes.Change.{Change}
use Rattle.ck_parts.specs.declared.changes.Change.TheVariants as change

-- what a reply makes of an operation that a call finishes, by its code and body
abbrev pub finish_change : OperationKind → ℕ → Rv → Body → Change
finish_change k session v b = change.FinishOperation k session (not (leaves_active v b))

-- the start of an HMAC, or of its first bytes, under the key of this number
abbrev pub start_hmac : OperationKind → ℕ → Mechanism → Option ℕ → Change
start_hmac k session mechanism key =
    change.StartHmac k session (unwrap_or (hmac_hash mechanism.kind) hash.Sha256)
    (unwrap_or key 0) (unwrap_or (tag_length mechanism) 0)

-- the change of a call that passes its checks, by the body of its reply
abbrev pub change_of : History → Call → Body → Change
change_of h (call.InitToken pin) body = change.InitToken pin
change_of h (call.InitPin session pin) body = change.InitPin pin
change_of h (call.SetPin session old new) body = change.SetPin (pin_owner (state_of h session)) new
change_of h (call.OpenSession flags) body = change.OpenSession flags
change_of h (call.CloseSession session) body = change.CloseSession session
change_of h call.CloseAllSessions body = change.CloseAllSessions
change_of h (call.Login session number pin) body =
    change.LogIn (unwrap_or (user_of number) user.User)
change_of h (call.Logout session) body = change.LogOut
change_of h (call.CreateObject session template) body =
    change.CreateObject session (created_items template.items)
change_of h (call.GenerateKey session mechanism template random) body =
    change.CreateObject session (generated_items template.items random)
change_of h (call.CopyObject session object template) body =
    change.CreateObject session (with_given template.items (attributes_or_empty h object))
change_of h (call.SetKeyState session key number) body =
    change.SetKeyState (unwrap_or (object_named h key) 0)
    (unwrap_or (state_of_number number) state.Active)
change_of h (call.SetAttributeValue session object template) body =
    change.SetAttributes (unwrap_or (object_named h object) 0) template
change_of h (call.DestroyObject session object) body =
    change.DestroyObject (unwrap_or (object_named h object) 0)
change_of h (call.FindObjectsInit session template) body =
    change.SetSearch session (Some (matching_objects h template.items))
change_of h (call.FindObjects session max) body =
    change.AdvanceSearch session
    (last_or (last_number h session) (map number_of_handle (handles_in body)))
change_of h (call.FindObjectsFinal session) body = change.SetSearch session None
change_of h (call.DigestInit session mechanism) body =
    change.StartDigest session (unwrap_or (digest_hash mechanism.kind) hash.Sha256)
change_of h (call.Digest session bytes room) b = finish_change kind.Digest session rv.Ok b
change_of h (call.DigestUpdate session bytes) body = change.AddPiece kind.Digest session
change_of h (call.DigestFinal session room) b = finish_change kind.Digest session rv.Ok b
change_of h (call.SignInit session mechanism key) body =
    start_hmac kind.Sign session mechanism (object_named h key)
change_of h (call.Sign session bytes room) b = finish_change kind.Sign session rv.Ok b
change_of h (call.SignUpdate session bytes) body = change.AddPiece kind.Sign session
change_of h (call.SignFinal session room) b = finish_change kind.Sign session rv.Ok b
change_of h (call.VerifyInit session mechanism key) body =
    start_hmac kind.Verify session mechanism (object_named h key)
change_of h (call.Verify session bytes signature) b = finish_change kind.Verify session rv.Ok b
change_of h (call.VerifyUpdate session bytes) body = change.AddPiece kind.Verify session
change_of h (call.VerifyFinal session signature) b = finish_change kind.Verify session rv.Ok b
change_of h (call.SessionCancel session flags) body = change.CancelOperations session flags
change_of h other body = change.Nothing

-- the change of a refusal by the user that the call is about: a wrong PIN is a wrong try
abbrev pub wrong_try_change : RvError → Option UserType → Change
wrong_try_change rv_error.PinIncorrect (Some u) = change.WrongTry u
wrong_try_change other who = change.Nothing

-- the end of an operation, where a piece was too long
abbrev pub end_if_too_long : OperationKind → ℕ → RvError → Change
end_if_too_long k session rv_error.DataLenRange = change.FinishOperation k session true
end_if_too_long k session other = change.Nothing

-- the change of a refused call that would make this step on an operation
abbrev pub refused_step : OperationKind → ℕ → Step → RvError → Change
refused_step k session initialize code = change.Nothing
refused_step k session (add_piece bytes) code = end_if_too_long k session code
refused_step k session other code = finish_change k session (rv.Error code) body.Empty

abbrev pub refused_by : Option OperationStep → RvError → Option UserType → Change
refused_by (Some o) code who = refused_step o.kind o.session o.step code
refused_by None code who = wrong_try_change code who

-- the change of a call that was refused
abbrev pub refused_change : Call → RvError → Option UserType → Change
refused_change c code who = refused_by (operation_step c) code who

-- the change of an answered call
abbrev pub effect_by : History → Call → Rv → Body → Change
effect_by h c rv.Ok body = change_of h c body
effect_by h c (rv.Error code) body = refused_change c code (about h (Some c))

abbrev pub effect : History → Call → Reply → Change
effect h c reply = effect_by h c reply.rv reply.body
