-- What needs a PIN, and what changes one
use Rattle.std.proofs.Common.{◌≡◌, ℕ, Bool, true, false, cond, Option, Some, None, refl, ap, sym}
use Rattle.std.proofs.Common.{◌∙◌, subst, length}
use Rattle.std.specs.Prelude.{◌==◌, not, is_none, is_some}
use Rattle.std.proofs.lemmas.Bool.{not-false}
use Rattle.ck_types.specs.Checks.{error_if}
use Rattle.ck_types.specs.Pins.{fits_a_pin}
use Rattle.ck_types.specs.TokenLimits.{Ranges}
use Rattle.ck_types.specs.Users.{user_of, session_state}
use Rattle.ck_types.specs.declared.pins.Pin.{Pin}
use Rattle.ck_types.specs.declared.errors.RvError.TheVariants as rv_error
use Rattle.ck_types.specs.declared.users.UserType.{UserType}
use Rattle.ck_types.specs.declared.users.UserType.TheVariants as user
use Rattle.ck_types.proofs.CheckLemmas.{error_if-none, or_else-none}
use Rattle.ck_journal.specs.declared.calls.Call.{Call}
use Rattle.ck_journal.specs.declared.calls.Call.TheVariants as call
use Rattle.ck_journal.specs.Answers.{session_error, known_login_error, user_login_error}
use Rattle.ck_journal.specs.Answers.{logged_in_error, read_only_error, pin_error, set_pin_error}
use Rattle.ck_journal.specs.Answers.{is_so_state}
use Rattle.ck_journal.specs.Histories.{History, done}
use Rattle.ck_journal.specs.Laws.{LoginsNeedThePin, InitializationsNeedThePin}
use Rattle.ck_journal.specs.Laws.{ChangesOfPinsNeedThePin, UserPinsAreSetByTheOfficer}
use Rattle.ck_journal.specs.Laws.{PinsStay, changes_pin}
use Rattle.ck_journal.specs.Pins.{is_about, is_initialized, is_locked, is_pin, pin_owner}
use Rattle.ck_journal.specs.Pins.{present_pin, so_pin, so_pin_after, user_pin, user_pin_after}
use Rattle.ck_journal.specs.Sessions.{open_sessions, is_read_write, login, state_of}
use Rattle.ck_journal.proofs.CutBases.{so-initialized}
use Rattle.ck_journal.proofs.LegalLemmas.{last-passes, later-passes, passed-done}

-- ---- what needs one

right-pin : (h : History) (u : UserType) (given : Pin) → pin_error u h given ≡ None
    → (is_pin (present_pin u h) given ≡ true) × (is_locked u h ≡ false)
right-pin h u given p = (
  not-false (is_pin (present_pin u h) given)
      (error_if-none (not (is_pin (present_pin u h) given)) rv_error.PinIncorrect
      (last-passes _ (later-passes _ _ p))),
  error_if-none (is_locked u h) rv_error.PinLocked (or_else-none _ _ p).0,
)

user-pin : (limits : Ranges) (h : History) (u : UserType) (given : Pin)
    → user_login_error limits h u given ≡ None → pin_error u h given ≡ None
user-pin limits h u given p =
    (or_else-none (pin_error u h given) _
    (later-passes _ _ (later-passes (read_only_error u h) _
    (later-passes (logged_in_error u (login h)) _ p)))).0

pub logins-need-pin : LoginsNeedThePin
logins-need-pin limits e h good session number given u logs_in is =
    let p = passed-done limits e h good.legal (call.Login session number given) logs_in in
    let known = last-passes (known_login_error limits h (user_of number) given)
    (later-passes (session_error h session) _ p) in
    right-pin h u given (user-pin limits h u given
    (ap (λ who. known_login_error limits h who given) (sym is) ∙ known))

pub initializations-need-pin : InitializationsNeedThePin
initializations-need-pin limits e h good given made is_so =
    let p = passed-done limits e h good.legal (call.InitToken given) made in
    let fits = error_if (not (fits_a_pin given)) rv_error.PinLenRange in
    let check = last-passes (cond (is_initialized h) (pin_error user.So h given) fits)
    (later-passes (error_if (not (length (open_sessions h) == 0)) rv_error.SessionExists) _ p) in
    right-pin h user.So given
    (subst (λ b. cond b (pin_error user.So h given) fits ≡ None) is_so check)

old-pin : (h : History) (session : ℕ) (old new : Pin) → set_pin_error h session old new ≡ None
    → (is_pin (present_pin (pin_owner (state_of h session)) h) old ≡ true)
    × (is_locked (pin_owner (state_of h session)) h ≡ false)
old-pin h session old new p =
    let owner = pin_owner (state_of h session) in
    let unset = error_if (is_none (present_pin owner h)) rv_error.UserPinNotInitialized in
    let locked = error_if (is_locked owner h) rv_error.PinLocked in
    let wrong = error_if (not (is_pin (present_pin owner h) old)) rv_error.PinIncorrect in
    let rest = or_else-none locked _
    (later-passes unset _
    (later-passes (error_if (not (is_read_write h session)) rv_error.SessionReadOnly) _
    (later-passes (session_error h session) _ p))) in (
      not-false (is_pin (present_pin owner h) old)
          (error_if-none (not (is_pin (present_pin owner h) old)) rv_error.PinIncorrect
          (last-passes wrong
          (later-passes (error_if (not (fits_a_pin new)) rv_error.PinLenRange) _ rest.1))),
      error_if-none (is_locked owner h) rv_error.PinLocked rest.0,
    )

pub pin_changes-need-pin : ChangesOfPinsNeedThePin
pin_changes-need-pin limits e h good session old new u made owns =
    subst (λ who. (is_pin (present_pin who h) old ≡ true) × (is_locked who h ≡ false)) owns
    (old-pin h session old new
    (passed-done limits e h good.legal (call.SetPin session old new) made))

so-login : (who : Option UserType) (read_write : Bool)
    → is_so_state (session_state who read_write) ≡ true → who ≡ Some user.So
so-login (Some user.So) read_write t = refl
so-login (Some user.User) true t = cc
so-login (Some user.User) false t = cc
so-login None true t = cc
so-login None false t = cc

pub officer-sets_pin : UserPinsAreSetByTheOfficer
officer-sets_pin limits e h good session pin made =
    let p = passed-done limits e h good.legal (call.InitPin session pin) made in
    let other = not (is_so_state (state_of h session)) in
    so-login (login h) (is_read_write h session)
    (not-false (is_so_state (state_of h session))
    (error_if-none other rv_error.UserNotLoggedIn
    (or_else-none (error_if other rv_error.UserNotLoggedIn) _
    (later-passes (session_error h session) _ p)).0))

-- ---- what changes one

-- a later initialization keeps the security officer's
initialized-pin : (pin : Pin) (about_so : Bool) (before : Option Pin) → is_some before ≡ true
    → so_pin_after (Some (call.InitToken pin)) about_so before ≡ before
initialized-pin pin about_so None t = cc
initialized-pin pin about_so (Some other) t = refl

so_pin-stays : (h : History) → is_some (so_pin h) ≡ is_initialized h → (d : Option Call)
    → changes_pin d user.So h ≡ false
    → so_pin_after d (is_about user.So h d) (so_pin h) ≡ so_pin h
so_pin-stays h has (Some (call.InitToken pin)) f =
    initialized-pin pin true (so_pin h) (has ∙ not-false (is_initialized h) f)
so_pin-stays h has (Some (call.SetPin session old new)) f =
    ap (λ b. so_pin_after (Some (call.SetPin session old new)) b (so_pin h)) f
so_pin-stays h has other f = refl

user_pin-stays : (h : History) (d : Option Call) → changes_pin d user.User h ≡ false
    → user_pin_after d (is_about user.User h d) (user_pin h) ≡ user_pin h
user_pin-stays h (Some (call.InitToken pin)) f = cc
user_pin-stays h (Some (call.InitPin session pin)) f = cc
user_pin-stays h (Some (call.SetPin session old new)) f =
    ap (λ b. user_pin_after (Some (call.SetPin session old new)) b (user_pin h)) f
user_pin-stays h other f = refl

pub pins-stay : PinsStay
pins-stay limits e h good user.So f =
    so_pin-stays h (so-initialized limits h good.sound good.legal.1) (done e) f
pins-stay limits e h good user.User f = user_pin-stays h (done e) f
