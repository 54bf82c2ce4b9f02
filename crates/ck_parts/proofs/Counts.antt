-- That the counts which a change raises stay in range
use Rattle.std.proofs.Common.{◌≡◌, ℕ, true, false, not, Option, Some, None, refl, ap, sym, ◌∙◌}
use Rattle.std.proofs.Common.{subst, arith}
use Rattle.std.specs.Prelude.{is_none, is_some}
use Rattle.ck_types.specs.Checks.{error_if}
use Rattle.ck_types.specs.TokenLimits.{Ranges, AreInRange}
use Rattle.ck_types.specs.declared.errors.RvError.TheVariants as rv_error
use Rattle.ck_types.specs.declared.hashes.Hash.{Hash}
use Rattle.ck_types.specs.declared.pins.Pin.{Pin}
use Rattle.ck_types.specs.declared.users.UserType.{UserType}
use Rattle.ck_types.specs.declared.users.UserType.TheVariants as user
use Rattle.ck_types.proofs.CheckLemmas.{or_else-none, error_if-none}
use Rattle.ck_types.proofs.MechanismLemmas.{tag_length-bounds}
use Rattle.ck_journal.specs.declared.calls.Call.{Call}
use Rattle.ck_journal.specs.declared.calls.Call.TheVariants as call
use Rattle.ck_journal.specs.declared.calls.Entry.{Entry}
use Rattle.ck_journal.specs.declared.operations.OperationKind.{OperationKind}
use Rattle.ck_journal.specs.declared.replies.Reply.{Reply}
use Rattle.ck_journal.specs.Answers.{IsLegal, answer, call_error, session_error}
use Rattle.ck_journal.specs.Histories.{History, done}
use Rattle.ck_journal.specs.Pins.{pin_owner, present_pin}
use Rattle.ck_journal.specs.Sessions.{is_read_write, state_of}
use Rattle.ck_journal.proofs.LegalLemmas.{passed-done, creation-free, user_logins-bound}
use Rattle.ck_journal.proofs.LegalLemmas.{openings-bound, creations-bound, tries-bound}
use Rattle.ck_sessions.specs.Agreement.{SessionsState, SessionsAgree, CredentialAgrees}
use Rattle.ck_sessions.specs.Agreement.{credential_of}
use Rattle.ck_parts.proofs.Inversions.{of-effect}
use Rattle.ck_parts.specs.Agreement.{PartsAgree, IsCounted}
use Rattle.ck_parts.specs.Changes.{effect}
use Rattle.ck_parts.specs.declared.changes.Change.{Change}
use Rattle.ck_parts.specs.declared.changes.Change.TheVariants as change
use Rattle.ck_parts.specs.declared.parts.Parts.{Parts}
use Rattle.ck_parts.proofs.PartMoves.{change-passed, hmac-passed}
use Rattle.ck_store.proofs.Readings.{named-row}

credential-agrees : (u : UserType) (h : History) (s : SessionsState) → SessionsAgree h s
    → CredentialAgrees u h (credential_of u s)
credential-agrees user.So h s agree = agree.so
credential-agrees user.User h s agree = agree.user

-- a PIN that is changed is there
is_some-pin : (pin : Option Pin) → is_none pin ≡ false → is_some pin ≡ true
is_some-pin None e = cc
is_some-pin (Some pin) e = refl

set_pin-passed : (limits : Ranges) (h : History) (session : ℕ) (old new : Pin)
    → call_error limits h (call.SetPin session old new) ≡ None
    → is_some (present_pin (pin_owner (state_of h session)) h) ≡ true
set_pin-passed limits h session old new e =
    let owner = pin_owner (state_of h session) in
    is_some-pin (present_pin owner h)
    (error_if-none (is_none (present_pin owner h)) rv_error.UserPinNotInitialized
    (or_else-none (error_if (is_none (present_pin owner h)) rv_error.UserPinNotInitialized) _
    (or_else-none (error_if (not (is_read_write h session)) rv_error.SessionReadOnly) _
    (or_else-none (session_error h session) _ e).1).1).0)

-- the hash function, the key and the length that a signing or verifying starts with
pub started-injected : (k : OperationKind) (session : ℕ) (made : Hash) (number len : ℕ)
    (other : Hash) (n m : ℕ)
    → change.StartHmac k session made number len ≡ change.StartHmac k session other n m
    → (made ≡ other) × (number ≡ n) × (len ≡ m)
started-injected k session made number len other n m e = (cc, cc, cc)

module _ (limits : Ranges) (in_range : AreInRange limits.sessions limits.openings limits.creations
    limits.logins) (h : History) (p : Parts)
    (legal : IsLegal limits h) (agree : PartsAgree h p) (c : Call) (r : Reply)
    (answered : r ≡ answer limits h c) where
  abbrev answered_entry : Entry
  answered_entry = record { caller = 0; call = c; reply = r }

  passes : done answered_entry ≡ Some c → call_error limits h c ≡ None
  passes d = passed-done limits answered_entry h (answered, legal) c d

  pub counted : (made : Change) → made ≡ effect h c r → IsCounted p made
  counted (change.OpenSession flags) is =
      let below = openings-bound limits in_range h agree.objects.sound legal in
      let same = agree.sessions.openings in
      omega arith
  counted (change.CreateObject session attributes) is =
      let d = of-effect h answered_entry (change.CreateObject session attributes) is refl in
      let of = d.1 in
      let below = creation-free limits h c (passes d.0) of.0 in
      let most = in_range.5 in
      let same = agree.objects.creations in
      omega arith
  counted (change.LogIn user.So) is = tt
  counted (change.LogIn user.User) is =
      let below = user_logins-bound limits in_range h agree.objects.sound legal in
      let same = agree.sessions.logins in
      omega arith
  counted (change.SetPin owner pin) is =
      let d = of-effect h answered_entry (change.SetPin owner pin) is refl in
      let of = d.1 in
      ap is_some (credential-agrees owner h p.sessions agree.sessions).pin
      ∙ subst (λ u. is_some (present_pin u h) ≡ true) of.3 (set_pin-passed limits h of.0 of.1 pin
      (passed-done limits answered_entry h (answered, legal) (call.SetPin of.0 of.1 pin)
      (d.0 ∙ ap Some of.2)))
  counted (change.WrongTry u) is =
      let below = tries-bound limits h agree.objects.sound legal u in
      let same = (credential-agrees u h p.sessions agree.sessions).tries in
      omega arith
  counted (change.SetAttributes number values) is = λ row found.
      let d = of-effect h answered_entry (change.SetAttributes number values) is refl in
      let of = d.1 in
      let passed = change-passed limits h of.0 of.1 values
      (passed-done limits answered_entry h (answered, legal) _ (d.0 ∙ ap Some of.2)) in
      let below = creations-bound limits in_range h agree.objects.sound legal in
      let same = agree.objects.creations in
      rw (named-row h _ agree.objects of.1 (omega arith) number (passed.0 ∙ ap Some (sym of.3)) row
      found) at passed.1
  counted (change.StartHmac k session hash key len) is =
      let d = of-effect h answered_entry (change.StartHmac k session hash key len) is refl in
      let of = d.1 limits in
      let starts = of.3 in
      let passed = hmac-passed k h session of.0 of.1 (sym starts.error ∙ passes d.0) in
      let same = started-injected k session hash key len _ _ _ of.2 in
      tag_length-bounds of.0 hash len (passed.1 ∙ ap Some (sym same.0))
      (passed.2 ∙ ap Some (sym same.2))
  counted other is = tt
