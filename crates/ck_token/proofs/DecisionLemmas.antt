-- Decisions by the checks of a call, one after the other
use Rattle.std.proofs.Common.{◌≡◌, ℕ, Bool, true, false, cond, not, List, Option, Some, None}
use Rattle.std.proofs.Common.{take, Result, Ok, Err, length, refl, sym, ap, ◌∙◌, subst}
use Rattle.std.specs.Prelude.{◌==◌, ◌&&◌, is_none, is_some, nat_lt}
use Rattle.std.specs.List.{list_any}
use Rattle.std.specs.Result.{IsErrAnd, IfErr}
use Rattle.std.specs.Option.{option_map_or}
use Rattle.ck_types.specs.Checks.{error_if, or_else, check_of}
use Rattle.ck_types.proofs.CheckLemmas.{check_of-ok, check_of-err}
use Rattle.ck_types.specs.TokenLimits.{Ranges}
use Rattle.ck_types.specs.declared.errors.RvError.{RvError}
use Rattle.ck_types.specs.declared.errors.RvError.TheVariants as rv_error
use Rattle.ck_objects.specs.declared.items.Item.{Item}
use Rattle.ck_journal.specs.declared.calls.Call.{Call}
use Rattle.ck_types.specs.declared.return_codes.Rv.TheVariants as rv
use Rattle.ck_types.specs.declared.users.UserType.{UserType}
use Rattle.ck_journal.specs.declared.calls.Call.TheVariants as call
use Rattle.ck_journal.specs.declared.replies.Body.{Body}
use Rattle.ck_journal.specs.declared.replies.Reply.{Reply}
use Rattle.ck_mac.specs.Macs.{signature_error}
use Rattle.ck_types.specs.Numbers.{same_bytes}
use Rattle.ck_objects.specs.Records.{state_in}
use Rattle.ck_journal.specs.declared.operations.OperationKind.{OperationKind}
use Rattle.ck_journal.specs.declared.operations.OperationKind.TheVariants as kind
use Rattle.ck_journal.specs.declared.replies.Body.TheVariants as body
use Rattle.ck_journal.specs.OperationCalls.{Step, initialize, single_part, add_piece, finish}
use Rattle.ck_journal.specs.OperationCalls.{OperationStep, operation_step}
use Rattle.ck_journal.specs.Operations.{leaves_active, message_in, is_active, is_updated}
use Rattle.ck_journal.specs.Operations.{is_too_long}
use Rattle.ck_journal.specs.Operations.{key_in}
use Rattle.ck_journal.specs.Answers.{ok, too_small, bytes_reply, unless, answer, allowed_reply}
use Rattle.ck_journal.specs.Answers.{call_error, session_error, object_error, operation_error}
use Rattle.ck_journal.specs.Answers.{present_key_error, key_state_error, may_serve, message_error}
use Rattle.ck_journal.specs.Answers.{final_error, piece_error, verify_error, verify_final_error}
use Rattle.ck_journal.specs.Answers.{tag_in}
use Rattle.ck_journal.specs.Queries.{asks_hidden, is_missing, lacks_room, query_answer}
use Rattle.ck_journal.specs.Replies.{has_items}
use Rattle.ck_journal.specs.Searches.{search_rest}
use Rattle.ck_journal.specs.Histories.{History}
use Rattle.ck_journal.specs.Objects.{attributes_named, attributes_or_empty, object_at, handle_of}
use Rattle.ck_journal.specs.Pins.{about}
use Rattle.ck_journal.specs.Sessions.{is_open}
use Rattle.ck_parts.specs.Agreement.{adds}
use Rattle.ck_parts.specs.Changes.{change_of, wrong_try_change, finish_change, refused_change}
use Rattle.ck_parts.specs.Changes.{refused_by, refused_step, effect, effect_by}
use Rattle.ck_token.proofs.SearchLemmas.{same-empty}
use Rattle.ck_journal.specs.MemoryNeeds.{takes_memory, gives_nothing, may_take_memory}
use Rattle.ck_journal.specs.MemoryNeeds.{may_run_out}
use Rattle.ck_token.specs.Decisions.{IsDecided, IsDecision, reply_of}
use Rattle.ck_parts.specs.declared.changes.Change.{Change}
use Rattle.ck_parts.specs.declared.changes.Change.TheVariants as change
use Rattle.ck_token.specs.declared.decisions.Decision.{Decision}
use Rattle.ck_token.specs.declared.decisions.Refused.{Refused}
use Rattle.ck_token.specs.declared.decisions.Refused.TheVariants as refused

-- a refusal of a call that is about nobody's PIN changes nothing
wrong_try_change-nobody : (code : RvError) → wrong_try_change code None ≡ change.Nothing
wrong_try_change-nobody rv_error.PinIncorrect = refl
wrong_try_change-nobody other = refl

-- such a call that a check refuses
pub refused-decision : (limits : Ranges) (h : History) (c : Call) (result : Result Decision Refused)
    (code : RvError)
    → IsErrAnd result (λ made. made ≡ refused.Error code change.Nothing)
    → call_error limits h c ≡ Some code
    → refused_change c code (about h (Some c)) ≡ wrong_try_change code None
    → IsDecision limits h c result
refused-decision limits h c (Ok decision) code made fails nobody = absurd made
refused-decision limits h c (Err reason) code made fails nobody =
    subst (λ (reason : Refused). IsDecision limits h c (Err reason)) (sym made)
    (fails, sym (nobody ∙ wrong_try_change-nobody code))

-- what is so of a code is so of a result that is this error
pub of-err : {A : Type 0} (result : Result A RvError) (code : RvError) (P : RvError → Type 0)
    → IsErrAnd result (λ made. made ≡ code) → P code → IfErr result P
of-err (Ok a) code P is holds = absurd is
of-err (Err made) code P is holds = subst P (sym is) holds

-- a check fails, and the refusal changes this
pub refusing-decided : (error : Option RvError) (reply : Reply) (made : Body → Change)
    (refusing : RvError → Change) (memory : Bool) (reason : Refused) (code : RvError)
    (change : Change)
    → reason ≡ refused.Error code change → error ≡ Some code → change ≡ refusing code
    → IsDecided error reply made refusing memory (Err reason)
refusing-decided error reply made refusing memory reason code change is fails changes =
    rw is (fails, changes)

-- a call that a check refuses, and what the refusal changes
pub refusing-decision : (limits : Ranges) (h : History) (c : Call) (reason : Refused)
    (code : RvError) (made : Change)
    → reason ≡ refused.Error code made → call_error limits h c ≡ Some code
    → made ≡ refused_change c code (about h (Some c)) → IsDecision limits h c (Err reason)
refusing-decision limits h c reason code made is fails changes = rw is (fails, changes)

-- a call that passes its checks and finds no memory
pub memory-decided : (error : Option RvError) (reply : Reply) (made : Body → Change)
    (refusing : RvError → Change) (memory : Bool) (result : Result Decision Refused)
    → IsErrAnd result (λ made. made ≡ refused.Memory) → error ≡ None → memory ≡ true
    → IsDecided error reply made refusing memory result
memory-decided error reply made refusing memory (Ok decision) is passes takes = absurd is
memory-decided error reply made refusing memory (Err reason) is passes takes =
    subst (λ (reason : Refused). IsDecided error reply made refusing memory (Err reason)) (sym is)
    (rw (passes, takes) refl)

pub memory-decision : (limits : Ranges) (h : History) (c : Call) (result : Result Decision Refused)
    → IsErrAnd result (λ made. made ≡ refused.Memory) → call_error limits h c ≡ None
    → may_take_memory h c ≡ true
    → IsDecision limits h c result
memory-decision limits h c =
    memory-decided (call_error limits h c) (allowed_reply limits h c) (λ b. change_of h c b)
    (λ code. refused_change c code (about h (Some c))) (may_take_memory h c)

-- a reply that gives bytes or their length
by_room : (h : History) (c : Call) (k : OperationKind) (session : ℕ)
    → ((b : Body) → change_of h c b ≡ finish_change k session rv.Ok b)
    → refused_change c rv_error.BufferTooSmall (about h (Some c))
    ≡ change.FinishOperation k session false
    → (room : Option ℕ) (bytes : List ℕ)
    → change_of h c (bytes_reply room bytes).body ≡ effect h c (bytes_reply room bytes)
by_room h c k session of stays None bytes = refl
by_room h c k session of stays (Some room) bytes = cases (nat_lt room (length bytes))
  where
    reply : Bool → Reply
    reply longer = cond longer (too_small (length bytes)) (ok (body.Bytes bytes))

    cases : (longer : Bool) → change_of h c (reply longer).body ≡ effect h c (reply longer)
    cases true = of (body.Length (length bytes)) ∙ sym stays
    cases false = refl

-- the change of a call that passes its checks is that of its entry
pub allowed-effect : (limits : Ranges) (h : History) (c : Call)
    → change_of h c (allowed_reply limits h c).body ≡ effect h c (allowed_reply limits h c)
allowed-effect limits h (call.GetAttributeValue session object queries) =
    by_code (list_any (asks_hidden (attributes_or_empty h object)) queries)
    (list_any (is_missing (attributes_or_empty h object)) queries)
    (list_any (lacks_room (attributes_or_empty h object)) queries) _
  where
    by_code : (hidden missing longer : Bool) (body : Body)
        → change.Nothing ≡ effect_by h (call.GetAttributeValue session object queries)
        (cond hidden (rv.Error rv_error.AttributeSensitive)
        (cond missing (rv.Error rv_error.AttributeTypeInvalid)
        (cond longer (rv.Error rv_error.BufferTooSmall) rv.Ok))) body
    by_code true missing longer body = refl
    by_code false true longer body = refl
    by_code false false true body = refl
    by_code false false false body = refl
allowed-effect limits h (call.Digest session bytes room) =
    by_room h (call.Digest session bytes room) kind.Digest session (λ b. refl) refl
    room (tag_in kind.Digest h session bytes)
allowed-effect limits h (call.DigestFinal session room) =
    by_room h (call.DigestFinal session room) kind.Digest session (λ b. refl) refl
    room (tag_in kind.Digest h session (message_in kind.Digest h session))
allowed-effect limits h (call.Sign session bytes room) =
    by_room h (call.Sign session bytes room) kind.Sign session (λ b. refl) refl
    room (tag_in kind.Sign h session bytes)
allowed-effect limits h (call.SignFinal session room) =
    by_room h (call.SignFinal session room) kind.Sign session (λ b. refl) refl
    room (tag_in kind.Sign h session (message_in kind.Sign h session))
allowed-effect limits h other = refl

-- ---- what takes no memory

-- a call that takes no memory by its kind
pub free-call : (limits : Ranges) (h : History) (c : Call) → takes_memory c ≡ false
    → may_run_out limits h c ≡ false
free-call limits h c free =
    ap (λ t. is_none (call_error limits h c) && (t && not (gives_nothing h c))) free
    ∙ and_false (is_none (call_error limits h c))
  where
    and_false : (t : Bool) → (t && false) ≡ false
    and_false true = refl
    and_false false = refl

-- a call that takes no memory besides its entry's gives no list with items
pub no_list : (limits : Ranges) (h : History) (c : Call) (r : Reply) → r ≡ answer limits h c
    → may_run_out limits h c ≡ false → has_items r.body ≡ false
no_list limits h c r answered free =
    ap (λ (r : Reply). has_items r.body) answered ∙ by_error (call_error limits h c) free
  where
    by_error : (error : Option RvError) → (is_none error && may_take_memory h c) ≡ false
        → has_items (unless error (allowed_reply limits h c)).body ≡ false
    by_error (Some code) free = refl
    by_error None free = by_call c free
      where
        by_call : (c : Call) → may_take_memory h c ≡ false
            → has_items (allowed_reply limits h c).body ≡ false
        by_call (call.GetAttributeValue session object queries) free =
            ap not (same-empty (query_answer (attributes_or_empty h object)) queries) ∙ free
        by_call (call.FindObjects session max) free =
            ap not (same-empty (handle_of h) (take max (search_rest h session))) ∙ free
        by_call (call.Digest session bytes None) free = refl
        by_call (call.Digest session bytes (Some room)) free = cc
        by_call (call.DigestFinal session None) free = refl
        by_call (call.DigestFinal session (Some room)) free = cc
        by_call (call.Sign session bytes None) free = refl
        by_call (call.Sign session bytes (Some room)) free = cc
        by_call (call.SignFinal session None) free = refl
        by_call (call.SignFinal session (Some room)) free = cc
        by_call call.GetMechanismList free = cc
        by_call other free = refl

-- and adds nothing
pub adds_nothing : (limits : Ranges) (h : History) (c : Call) (r : Reply) (made : Change)
    → r ≡ answer limits h c
    → made ≡ effect h c r
    → may_run_out limits h c ≡ false → adds made ≡ false
adds_nothing limits h c r made answered is free =
    ap adds is ∙ ap (λ (r : Reply). adds (effect h c r)) answered
    ∙ by_error (call_error limits h c) free
  where
    by_pin : (code : RvError) (who : Option UserType) → adds (wrong_try_change code who) ≡ false
    by_pin rv_error.PinIncorrect None = refl
    by_pin rv_error.PinIncorrect (Some u) = refl
    by_pin other who = refl

    by_step : (k : OperationKind) (session : ℕ) (x : Step) (code : RvError)
        → adds (refused_step k session x code) ≡ false
    by_step k session initialize code = refl
    by_step k session (add_piece bytes) rv_error.DataLenRange = refl
    by_step k session (add_piece bytes) other = refl
    by_step k session (single_part bytes) code = refl
    by_step k session finish code = refl

    by_refusal : (o : Option OperationStep) (code : RvError) (who : Option UserType)
        → adds (refused_by o code who) ≡ false
    by_refusal (Some o) code who = by_step o.kind o.session o.step code
    by_refusal None code who = by_pin code who

    by_error : (error : Option RvError) → (is_none error && may_take_memory h c) ≡ false
        → adds (effect h c (unless error (allowed_reply limits h c))) ≡ false
    by_error (Some code) free = by_refusal (operation_step c) code (about h (Some c))
    by_error None free = ap adds (sym (allowed-effect limits h c))
        ∙ by_call c (allowed_reply limits h c).body free
      where
        by_call : (c : Call) (b : Body) → may_take_memory h c ≡ false
            → adds (change_of h c b) ≡ false
        by_call (call.OpenSession flags) b free = cc
        by_call (call.CreateObject session template) b free = cc
        by_call (call.GenerateKey session mechanism template random) b free = cc
        by_call (call.CopyObject session object template) b free = cc
        by_call (call.DigestInit session mechanism) b free = cc
        by_call (call.SignInit session mechanism key) b free = cc
        by_call (call.VerifyInit session mechanism key) b free = cc
        by_call other b free = refl

-- ---- checks in order, of which all before one pass

-- a check that passes, and the later ones
pub skip : (first later : Option RvError) → first ≡ None → or_else first later ≡ later
skip first later passes = rw passes refl

-- a check that fails, whatever comes later
pub hit : (first later : Option RvError) (code : RvError) → first ≡ Some code
    → or_else first later ≡ Some code
hit first later code fails = rw fails refl

-- a check that passes by its result, and the later ones
pub pass : (first later : Option RvError) (result : Result (Unit {0}) RvError) (u : Unit {0})
    → result ≡ check_of first → result ≡ Ok u → or_else first later ≡ later
pass first later result u made was = skip first later (check_of-ok first u (sym made ∙ was))

-- a check that fails by its result
pub stop : (first later : Option RvError) (result : Result (Unit {0}) RvError) (code : RvError)
    → result ≡ check_of first → result ≡ Err code → or_else first later ≡ Some code
stop first later result code made was =
    hit first later code (check_of-err first code (sym made ∙ was))

-- the result of a check of what is equal to this
pub same_check : {A : Type 0} (check : A → Option RvError) (given is : A)
    (result : Result (Unit {0}) RvError) → given ≡ is → result ≡ check_of (check given)
    → result ≡ check_of (check is)
same_check check given is result same made = made ∙ ap (λ x. check_of (check x)) same

pub session-passes : (h : History) (session : ℕ) → is_open h session ≡ true
    → session_error h session ≡ None
session-passes h session is_so = ap (λ t. error_if (not t) rv_error.SessionHandleInvalid) is_so

-- a session that is open, and then the checks of what a handle names
pub named-checks : (h : History) (session : ℕ) (found : Option (List Item)) (unnamed : RvError)
    (checks : List Item → Option RvError) (attributes : List Item) (error : Option RvError)
    → is_open h session ≡ true → found ≡ Some attributes → checks attributes ≡ error
    → or_else (session_error h session) (or_else (option_map_or checks found (Some unnamed)) None)
    ≡ error
named-checks h session found unnamed checks attributes error is_so named is =
    ap (λ first. or_else first (or_else (option_map_or checks found (Some unnamed)) None))
    (session-passes h session is_so)
    ∙ ap (λ found. or_else (option_map_or checks found (Some unnamed)) None) named
    ∙ last (checks attributes) ∙ is
  where
    last : (error : Option RvError) → or_else error None ≡ error
    last None = refl
    last (Some code) = refl

-- the same of the object that a handle names
pub object-checks : (h : History) (session object : ℕ) (checks : List Item → Option RvError)
    (attributes : List Item) (error : Option RvError)
    → is_open h session ≡ true → attributes_named h object ≡ Some attributes
    → checks attributes ≡ error
    → or_else (session_error h session) (or_else (object_error h object checks) None) ≡ error
object-checks h session object =
    named-checks h session (attributes_named h object) rv_error.ObjectHandleInvalid

-- ---- a reply that gives bytes

-- it was given room
pub room-given : (room : Option ℕ) (bytes : List ℕ) → bytes_reply room bytes ≡ ok (body.Bytes bytes)
    → is_some room ≡ true
room-given None bytes e = absurd (no_bytes (length bytes) bytes (ap (λ (r : Reply). r.body) e))
  where
    no_bytes : (n : ℕ) (bytes : List ℕ) → body.Length n ≡ body.Bytes bytes → ⊥
    no_bytes n bytes e = cc
room-given (Some room) bytes e = refl

pub gives-bytes : (k : OperationKind) (session : ℕ) (d : Decision) (tag bytes : List ℕ)
    (expected : Reply)
    → d ≡ record {
      rv = rv.Ok;
      body = body.Bytes tag;
      change = change.FinishOperation k session true;
    }
    → expected ≡ ok (body.Bytes bytes) → tag ≡ bytes
    → (reply_of d ≡ expected) × (d.change ≡ finish_change k session rv.Ok d.body)
gives-bytes k session d tag bytes expected is given same =
    rw is (ap (λ bytes. ok (body.Bytes bytes)) same ∙ sym given, refl)

-- a verifying that ends well
pub ends-decision : (session : ℕ) (d : Decision) (made : Change) (error : Option RvError)
    → d ≡ record { rv = rv.Ok; body = body.Empty; change = made }
    → made ≡ change.FinishOperation kind.Verify session true → error ≡ None
    → (error ≡ None) × (reply_of d ≡ ok body.Empty)
    × (d.change ≡ finish_change kind.Verify session rv.Ok d.body)
ends-decision session d made error is ends passes = rw (is, ends) (passes, refl, refl)

-- ---- refusals that end an operation

-- the error isn't that of a room that is too small
abbrev pub is_final : Option RvError → Bool
is_final None = true
is_final (Some code) = not (leaves_active (rv.Error code) body.Empty)

final-or_else : (a b : Option RvError) → is_final a ≡ true → is_final b ≡ true
    → is_final (or_else a b) ≡ true
final-or_else None b first later = later
final-or_else (Some code) b first later = first

final-if : (t : Bool) (code : RvError) → is_final (Some code) ≡ true
    → is_final (error_if t code) ≡ true
final-if true code is = is
final-if false code is = refl

final-session : (h : History) (session : ℕ) → is_final (session_error h session) ≡ true
final-session h session = final-if (not (is_open h session)) rv_error.SessionHandleInvalid refl

final-operation : (k : OperationKind) (h : History) (session : ℕ)
    → is_final (operation_error k h session) ≡ true
final-operation k h session =
    final-or_else (session_error h session) _ (final-session h session)
    (final-or_else _ None
    (final-if (not (is_active k h session)) rv_error.OperationNotInitialized refl) refl)

final-key : (k : OperationKind) (h : History) (key : Option ℕ)
    → is_final (present_key_error k h key) ≡ true
final-key k h None = refl
final-key k h (Some n) = cases (object_at h n)
  where
    cases : (object : Option (List Item))
        → is_final (option_map_or (key_state_error k) object (Some rv_error.KeyHandleInvalid))
        ≡ true
    cases None = refl
    cases (Some a) =
        final-if (not (option_map_or (may_serve k) (state_in a) false))
        rv_error.KeyFunctionNotPermitted refl

final-message : (k : OperationKind) (h : History) (session : ℕ) (bytes : List ℕ)
    → is_final (message_error k h session bytes) ≡ true
final-message k h session bytes =
    final-or_else (operation_error k h session) _ (final-operation k h session)
    (final-or_else (error_if (is_updated k h session) rv_error.OperationNotInitialized) _
    (final-if (is_updated k h session) rv_error.OperationNotInitialized refl)
    (final-or_else (piece_error bytes) _ (final-if (is_too_long bytes) rv_error.DataLenRange refl)
    (final-or_else _ None (final-key k h (key_in k h session)) refl)))

final-final : (k : OperationKind) (h : History) (session : ℕ)
    → is_final (final_error k h session) ≡ true
final-final k h session =
    final-or_else (operation_error k h session) _ (final-operation k h session)
    (final-or_else _ None (final-key k h (key_in k h session)) refl)

final-signature : (tag signature : List ℕ) → is_final (signature_error tag signature) ≡ true
final-signature tag signature = cases (length signature == length tag) (same_bytes signature tag)
  where
    cases : (fits same : Bool)
        → is_final (cond fits (cond same None (Some rv_error.SignatureInvalid))
        (Some rv_error.SignatureLenRange)) ≡ true
    cases true true = refl
    cases true false = refl
    cases false same = refl

-- such an error ends the operation
pub ends-finally : (k : OperationKind) (session : ℕ) (error : Option RvError) (code : RvError)
    → is_final error ≡ true → error ≡ Some code
    → change.FinishOperation k session true ≡ finish_change k session (rv.Error code) body.Empty
ends-finally k session error code final is =
    ap (λ t. change.FinishOperation k session t) (sym (ap is_final (sym is) ∙ final))

pub message-ends : (k : OperationKind) (h : History) (session : ℕ) (bytes : List ℕ) (code : RvError)
    → message_error k h session bytes ≡ Some code
    → change.FinishOperation k session true ≡ finish_change k session (rv.Error code) body.Empty
message-ends k h session bytes code =
    ends-finally k session (message_error k h session bytes) code (final-message k h session bytes)

pub verify-ends : (h : History) (session : ℕ) (bytes signature : List ℕ) (code : RvError)
    → verify_error h session bytes signature ≡ Some code
    → change.FinishOperation kind.Verify session true
    ≡ finish_change kind.Verify session (rv.Error code) body.Empty
verify-ends h session bytes signature code =
    ends-finally kind.Verify session (verify_error h session bytes signature) code
    (final-or_else (message_error kind.Verify h session bytes) _
    (final-message kind.Verify h session bytes)
    (final-or_else _ None (final-signature (tag_in kind.Verify h session bytes) signature) refl))

pub verify_final-ends : (h : History) (session : ℕ) (signature : List ℕ) (code : RvError)
    → verify_final_error h session signature ≡ Some code
    → change.FinishOperation kind.Verify session true
    ≡ finish_change kind.Verify session (rv.Error code) body.Empty
verify_final-ends h session signature code =
    ends-finally kind.Verify session (verify_final_error h session signature) code
    (final-or_else (final_error kind.Verify h session) _ (final-final kind.Verify h session)
    (final-or_else _ None
    (final-signature (tag_in kind.Verify h session (message_in kind.Verify h session)) signature)
    refl))
