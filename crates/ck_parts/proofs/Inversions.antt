-- Which call a change is of
use Rattle.std.proofs.Common.{◌≡◌, ℕ, Bool, true, false, cond, Option, Some, None, refl, sym, ap}
use Rattle.std.proofs.Common.{◌∙◌, subst, rules}
use Rattle.std.specs.Prelude.{map, unwrap_or}
use Rattle.ck_objects.specs.KeyStates.{state_of_number}
use Rattle.ck_types.specs.Mechanisms.{digest_hash}
use Rattle.ck_objects.specs.Records.{key_value}
use Rattle.ck_types.specs.TokenLimits.{Ranges}
use Rattle.ck_types.specs.Users.{user_of}
use Rattle.ck_types.specs.declared.errors.RvError.{RvError}
use Rattle.ck_types.specs.declared.errors.RvError.TheVariants as rv_error
use Rattle.ck_types.specs.declared.return_codes.Rv.{Rv}
use Rattle.ck_types.specs.declared.return_codes.Rv.TheVariants as rv
use Rattle.ck_types.specs.declared.hashes.Hash.TheVariants as hash
use Rattle.ck_objects.specs.declared.key_states.KeyState.TheVariants as state
use Rattle.ck_types.specs.declared.mechanisms.Mechanism.{Mechanism}
use Rattle.ck_types.specs.declared.pins.Pin.{Pin}
use Rattle.ck_types.specs.declared.users.UserType.{UserType}
use Rattle.ck_types.specs.declared.users.UserType.TheVariants as user
use Rattle.ck_journal.specs.declared.calls.Call.{Call}
use Rattle.ck_journal.specs.declared.calls.Call.TheVariants as call
use Rattle.ck_journal.specs.declared.calls.Entry.{Entry}
use Rattle.ck_journal.specs.declared.operations.OperationKind.{OperationKind}
use Rattle.ck_journal.specs.declared.replies.Body.{Body}
use Rattle.ck_journal.specs.Histories.{History, done, is_ok}
use Rattle.ck_journal.specs.Objects.{creates, creation_session, creation_attributes}
use Rattle.ck_journal.specs.Objects.{attributes_named, object_named, attributes_or_empty}
use Rattle.ck_journal.specs.Pins.{pin_owner, about}
use Rattle.ck_journal.specs.Searches.{last_number, last_or, number_of_handle, handles_in}
use Rattle.ck_journal.specs.Sessions.{state_of}
use Rattle.ck_journal.specs.Answers.{call_error, hmac_init_error}
use Rattle.ck_journal.specs.OperationCalls.{Step, initialize, single_part, add_piece, finish}
use Rattle.ck_journal.specs.OperationCalls.{OperationStep, operation_step}
use Rattle.ck_journal.specs.Works.{taken_bytes}
use Rattle.ck_journal.specs.Operations.{started_computation, hmac_with, init_key}
use Rattle.ck_sessions.specs.SearchCalls.{SetsSearch}
use Rattle.ck_parts.specs.Changes.{change_of, start_hmac, wrong_try_change, refused_by}
use Rattle.ck_parts.specs.Changes.{refused_step, effect, effect_by}
use Rattle.ck_parts.specs.declared.changes.Change.{Change}
use Rattle.ck_parts.specs.declared.changes.Change.TheVariants as change

-- ---- a change of a call that was answered OK

-- neither nothing, nor a wrong try, nor what finishes an operation, which may be of a refusal
abbrev pub is_of_call : Change → Bool
is_of_call change.Nothing = false
is_of_call (change.WrongTry u) = false
is_of_call (change.FinishOperation k session ends) = false
is_of_call other = true

is_of_call-wrong_try : (code : RvError) (who : Option UserType)
    → is_of_call (wrong_try_change code who) ≡ false
is_of_call-wrong_try rv_error.PinIncorrect None = refl
is_of_call-wrong_try rv_error.PinIncorrect (Some u) = refl
is_of_call-wrong_try other who = refl

is_of_call-step : (k : OperationKind) (session : ℕ) (x : Step) (code : RvError)
    → is_of_call (refused_step k session x code) ≡ false
is_of_call-step k session initialize code = refl
is_of_call-step k session (add_piece bytes) rv_error.DataLenRange = refl
is_of_call-step k session (add_piece bytes) other = refl
is_of_call-step k session (single_part bytes) code = refl
is_of_call-step k session finish code = refl

is_of_call-refused : (o : Option OperationStep) (code : RvError) (who : Option UserType)
    → is_of_call (refused_by o code who) ≡ false
is_of_call-refused (Some o) code who = is_of_call-step o.kind o.session o.step code
is_of_call-refused None code who = is_of_call-wrong_try code who

done_step : (h : History) (c : Call) (v : Rv) (b : Body) → is_of_call (effect_by h c v b) ≡ true
    → (cond (is_ok v) (Some c) None ≡ Some c) × (effect_by h c v b ≡ change_of h c b)
done_step h c rv.Ok b e = (refl, refl)
done_step h c (rv.Error code) b e =
    let f = is_of_call-refused (operation_step c) code (about h (Some c)) in cc

-- its call was answered OK
done-of_call : (h : History) (e : Entry) (made : Change) → made ≡ effect h e.call e.reply
    → is_of_call made ≡ true
    → (done e ≡ Some e.call) × (made ≡ change_of h e.call e.reply.body)
done-of_call h e made is kind =
    let d = done_step h e.call e.reply.rv e.reply.body (ap is_of_call (sym is) ∙ kind) in
    (d.0, is ∙ d.1)

-- ---- one call for each change

-- the call starts an HMAC of this kind in this session
pub record IsHmacInit (limits : Ranges) (h : History) (c : Call) (k : OperationKind) (session : ℕ)
    (mechanism : Mechanism) (handle : ℕ) : Type 0 where
  pub step : operation_step c ≡ Some (record { kind = k; session = session; step = initialize })
  pub error : call_error limits h c ≡ hmac_init_error k h session mechanism handle
  pub computation : started_computation h (Some c) ≡ hmac_with mechanism
      (key_value (attributes_or_empty h handle))
  pub key : init_key (Some c) ≡ Some handle

-- what is so of a call whose change this is
abbrev pub IsChangeOf : History → Body → Change → Call → Type 0
IsChangeOf h b (change.InitToken pin) c = c ≡ call.InitToken pin
IsChangeOf h b (change.InitPin pin) c = (session : ℕ) × (c ≡ call.InitPin session pin)
IsChangeOf h b (change.SetPin owner pin) c =
    (session : ℕ) × (old : Pin) × (c ≡ call.SetPin session old pin)
    × (pin_owner (state_of h session) ≡ owner)
IsChangeOf h b (change.OpenSession flags) c = c ≡ call.OpenSession flags
IsChangeOf h b (change.CloseSession session) c = c ≡ call.CloseSession session
IsChangeOf h b change.CloseAllSessions c = c ≡ call.CloseAllSessions
IsChangeOf h b (change.LogIn u) c =
    (session number : ℕ) × (pin : Pin) × (c ≡ call.Login session number pin)
    × (u ≡ unwrap_or (user_of number) user.User)
IsChangeOf h b change.LogOut c = (session : ℕ) × (c ≡ call.Logout session)
IsChangeOf h b (change.CreateObject session attributes) c =
    (creates (Some c) ≡ true) × (session ≡ creation_session (Some c))
    × (attributes ≡ creation_attributes (Some c) (attributes_named h))
IsChangeOf h b (change.SetAttributes number values) c =
    (session object : ℕ) × (c ≡ call.SetAttributeValue session object values)
    × (number ≡ unwrap_or (object_named h object) 0)
IsChangeOf h b (change.DestroyObject number) c =
    (session object : ℕ) × (c ≡ call.DestroyObject session object)
    × (number ≡ unwrap_or (object_named h object) 0)
IsChangeOf h b (change.SetKeyState number made) c =
    (session key n : ℕ) × (c ≡ call.SetKeyState session key n)
    × (number ≡ unwrap_or (object_named h key) 0)
    × (made ≡ unwrap_or (state_of_number n) state.Active)
IsChangeOf h b (change.SetSearch session found) c = SetsSearch h c session found
IsChangeOf h b (change.AdvanceSearch session number) c =
    (max : ℕ) × (c ≡ call.FindObjects session max)
    × (number ≡ last_or (last_number h session) (map number_of_handle (handles_in b)))
IsChangeOf h b (change.StartDigest session made) c =
    (mechanism : Mechanism) × (c ≡ call.DigestInit session mechanism)
    × (made ≡ unwrap_or (digest_hash mechanism.kind) hash.Sha256)
IsChangeOf h b (change.StartHmac k session made number len) c =
    (limits : Ranges) → (mechanism : Mechanism) × (key : ℕ)
    × (change.StartHmac k session made number len ≡ start_hmac k session mechanism
    (object_named h key))
    × IsHmacInit limits h c k session mechanism key
IsChangeOf h b (change.AddPiece k session) c =
    operation_step c
    ≡ Some (record { kind = k; session = session; step = add_piece (taken_bytes c) })
IsChangeOf h b (change.CancelOperations session flags) c = c ≡ call.SessionCancel session flags
IsChangeOf h b other c = Unit {0}

module _ (h : History) (b : Body) where
  change-of : (c : Call) → IsChangeOf h b (change_of h c b) c
  change-of (call.InitToken pin) = refl
  change-of (call.InitPin session pin) = (session, refl)
  change-of (call.SetPin session old new) = (session, old, refl, refl)
  change-of (call.OpenSession flags) = refl
  change-of (call.CloseSession session) = refl
  change-of call.CloseAllSessions = refl
  change-of (call.Login session number pin) = (session, number, pin, refl, refl)
  change-of (call.Logout session) = (session, refl)
  change-of (call.CreateObject session template) = (refl, refl, refl)
  change-of (call.GenerateKey session mechanism template random) = (refl, refl, refl)
  change-of (call.CopyObject session object template) = (refl, refl, refl)
  change-of (call.SetAttributeValue session object template) = (session, object, refl, refl)
  change-of (call.SetKeyState session key n) = (session, key, n, refl, refl, refl)
  change-of (call.DestroyObject session object) = (session, object, refl, refl)
  change-of (call.FindObjectsInit session template) = search rules
  change-of (call.FindObjects session max) = (max, refl, refl)
  change-of (call.FindObjectsFinal session) = search rules
  change-of (call.DigestInit session mechanism) = (mechanism, refl, refl)
  change-of (call.DigestUpdate session bytes) = refl
  change-of (call.SignInit session mechanism key) = λ limits. (mechanism, key, refl, search rules)
  change-of (call.SignUpdate session bytes) = refl
  change-of (call.VerifyInit session mechanism key) = λ limits. (mechanism, key, refl, search rules)
  change-of (call.VerifyUpdate session bytes) = refl
  change-of (call.SessionCancel session flags) = refl
  change-of other = tt

  -- what is so of a call, by its change
  of-change : (c : Call) (made : Change) → made ≡ change_of h c b → IsChangeOf h b made c
  of-change c made is = subst (λ (m : Change). IsChangeOf h b m c) (sym is) (change-of c)

-- ---- the call of an entry, by its change

module _ (h : History) (e : Entry) where
  -- what is so of the call that was answered
  pub of-effect : (made : Change) → made ≡ effect h e.call e.reply → is_of_call made ≡ true
      → (done e ≡ Some e.call) × IsChangeOf h e.reply.body made e.call
  of-effect made is kind =
      let d = done-of_call h e made is kind in
      (d.0, of-change h e.reply.body e.call made d.1)
