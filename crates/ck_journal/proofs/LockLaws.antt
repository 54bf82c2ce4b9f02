-- A locked security officer stays locked, over calls and cuts
use Rattle.std.proofs.Common.{◌≡◌, ℕ, suc, Bool, true, false, cond, not, ◌||◌, List, [], ◌∷◌}
use Rattle.std.proofs.Common.{Option, Some, None, refl, sym, ◌∙◌, subst}
use Rattle.std.specs.Prelude.{◌==◌, is_none}
use Rattle.std.proofs.lemmas.Bool.{false≢true}
use Rattle.std.proofs.lemmas.Option.{same_Some}
use Rattle.ck_types.specs.Checks.{error_if}
use Rattle.ck_types.specs.Pins.{fits_a_pin}
use Rattle.ck_types.specs.TokenLimits.{Ranges}
use Rattle.ck_types.specs.Users.{user_of}
use Rattle.ck_types.specs.declared.errors.RvError.TheVariants as rv_error
use Rattle.ck_types.specs.declared.users.UserType.TheVariants as user
use Rattle.ck_types.proofs.CheckLemmas.{error_if-none, or_else-none}
use Rattle.ck_journal.specs.declared.calls.Call.{Call}
use Rattle.ck_journal.specs.declared.calls.Call.TheVariants as call
use Rattle.ck_journal.specs.declared.calls.Entry.{Entry}
use Rattle.ck_journal.specs.Answers.{pin_error, session_error}
use Rattle.ck_journal.specs.Events.{Event, answered, cut, after_events, AreSoundEvents}
use Rattle.ck_journal.specs.Histories.{History, ◌◁◌, done, wrong_try}
use Rattle.ck_journal.specs.Laws.{IsSoundHistory}
use Rattle.ck_journal.specs.LawsOverEvents.{LockedOfficersStayLocked}
use Rattle.ck_journal.specs.Pins.{initializes, is_about, is_initialized, is_locked, is_user}
use Rattle.ck_journal.specs.Pins.{pin_owner, present_pin, resets, tries}
use Rattle.ck_journal.specs.Sessions.{is_read_write, state_of}
use Rattle.ck_journal.proofs.EventLemmas.{events-before, sound-after}
use Rattle.ck_journal.proofs.LegalLemmas.{is_user-some, last-passes, later-passes, passed-done}
use Rattle.ck_journal.proofs.LegalLemmas.{wrong_try-unlocked}
use Rattle.ck_journal.proofs.PinLaws.{logins-need-pin}

or-false : (test : Bool) → (test || false) ≡ true → test ≡ true
or-false true t = refl
or-false false t = cc

or-true : (first second : Bool) → second ≡ true → (first || second) ≡ true
or-true true second t = refl
or-true false second t = t

module _ (limits : Ranges) (e : Entry) (h : History) (good : IsSoundHistory limits (e ◁ h))
    (initialized : is_initialized h ≡ true) where
  -- the tries of the security officer go back to 0 only where the officer isn't locked
  reset-unlocked : (d : Option Call) → done e ≡ d → resets user.So h d ≡ true
      → is_locked user.So h ≡ false
  reset-unlocked (Some (call.InitToken pin)) did t =
      let passes = last-passes _
      (later-passes _ _ (passed-done limits e h good.legal (call.InitToken pin) did)) in
      let tried : pin_error user.So h pin ≡ None =
      subst (λ t. cond t (pin_error user.So h pin)
      (error_if (not (fits_a_pin pin)) rv_error.PinLenRange) ≡ None) initialized passes in
      error_if-none (is_locked user.So h) rv_error.PinLocked (or_else-none _ _ tried).0
  reset-unlocked (Some (call.SetPin session old new)) did t =
      let owner = pin_owner (state_of h session) in
      let officer = same_Some owner user.So
      (is_user-some user.So (Some owner) (or-false (is_user user.So (Some owner)) t)) in
      let passes = passed-done limits e h good.legal (call.SetPin session old new) did in
      subst (λ u. is_locked u h ≡ false) officer
      (error_if-none (is_locked owner h) rv_error.PinLocked
      (or_else-none _ _
      (later-passes (error_if (is_none (present_pin owner h)) rv_error.UserPinNotInitialized) _
      (later-passes (error_if (not (is_read_write h session)) rv_error.SessionReadOnly) _
      (later-passes (session_error h session) _ passes)))).0)
  reset-unlocked (Some (call.Login session number pin)) did t =
      (logins-need-pin limits e h good session number pin user.So did
      (is_user-some user.So (user_of number) (or-false (is_user user.So (user_of number)) t))).1
  reset-unlocked other did t = cc

  still-three : (reset wrong : Bool) (n : ℕ) → n == 3 ≡ true → (reset ≡ true → n == 3 ≡ false)
      → (wrong ≡ true → n == 3 ≡ false) → cond reset 0 (cond wrong (suc n) n) == 3 ≡ true
  still-three true wrong n three no_reset no_try = absurd (false≢true (sym (no_reset refl) ∙ three))
  still-three false true n three no_reset no_try = absurd (false≢true (sym (no_try refl) ∙ three))
  still-three false false n three no_reset no_try = three

  stays-locked : is_locked user.So h ≡ true → is_locked user.So (e ◁ h) ≡ true
  stays-locked locked =
      still-three (resets user.So h (done e)) (is_about user.So h (wrong_try e))
      (tries user.So h) locked (reset-unlocked (done e) refl)
      (wrong_try-unlocked limits e h good.legal user.So)

stay-locked : (limits : Ranges) (h : History) (later : List Event) → AreSoundEvents limits h later
    → is_initialized h ≡ true → is_locked user.So h ≡ true
    → (is_initialized (after_events h later) ≡ true)
    × (is_locked user.So (after_events h later) ≡ true)
stay-locked limits h [] sound initialized locked = (initialized, locked)
stay-locked limits h (answered e ∷ later) sound initialized locked =
    let front = after_events h later in
    let before = stay-locked limits h later (events-before limits h (answered e) later sound)
    initialized locked in (
      or-true (initializes (done e)) (is_initialized front) before.0,
      stays-locked limits e front (sound-after limits h (answered e ∷ later) sound) before.0
          before.1,
    )
stay-locked limits h (cut ∷ later) sound initialized locked =
    stay-locked limits h later (events-before limits h cut later sound) initialized locked

pub officers-stay-locked : LockedOfficersStayLocked
officers-stay-locked limits h later sound initialized locked =
    (stay-locked limits h later sound initialized locked).1
