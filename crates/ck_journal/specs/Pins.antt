-- PINs, wrong tries and the token's initialization (PKCS #11 Base 3.0, Slot and token management
-- functions)
use Rattle.std.specs.Prelude.{ℕ, suc, Bool, true, false, Option, Some, None, ◌==◌, ◌||◌}
use Rattle.std.specs.Prelude.{if◌then◌else◌}
use Rattle.ck_types.specs.Pins.{same_pin}
use Rattle.ck_types.specs.Users.{user_of, same_user}
use Rattle.ck_types.specs.declared.pins.Pin.{Pin}
use Rattle.ck_types.specs.declared.users.SessionState.{SessionState}
use Rattle.ck_types.specs.declared.users.SessionState.TheVariants as state
use Rattle.ck_types.specs.declared.users.UserType.{UserType}
use Rattle.ck_types.specs.declared.users.UserType.TheVariants as user
use Rattle.ck_journal.specs.declared.calls.Call.{Call}
use Rattle.ck_journal.specs.declared.calls.Call.TheVariants as call
use Rattle.ck_journal.specs.Bases.{base_tries}
use Rattle.ck_journal.specs.Histories.{History, start, ◌◁◌, done, wrong_try}
use Rattle.ck_journal.specs.Sessions.{state_of}

-- there is a PIN, and the given one is the same
abbrev pub is_pin : Option Pin → Pin → Bool
is_pin None given = false
is_pin (Some pin) given = same_pin pin given

-- ---- whom a call is about

-- whose PIN C_SetPIN changes in a session of this state: in CKS_RW_SO_FUNCTIONS the security
-- officer's, else the normal user's
abbrev pub pin_owner : SessionState → UserType
pin_owner state.RwSo = user.So
pin_owner other = user.User

-- the user whose PIN a call sets or tries, by the history just before it
abbrev pub about : History → Option Call → Option UserType
about h (Some (call.InitToken pin)) = Some user.So
about h (Some (call.InitPin session pin)) = Some user.User
about h (Some (call.SetPin session old new)) = Some (pin_owner (state_of h session))
about h (Some (call.Login session user pin)) = user_of user
about h other = None

abbrev pub is_user : UserType → Option UserType → Bool
is_user u None = false
is_user u (Some other) = same_user u other

abbrev pub is_about : UserType → History → Option Call → Bool
is_about u h c = is_user u (about h c)

-- ---- PINs

abbrev pub initializes : Option Call → Bool
initializes (Some (call.InitToken pin)) = true
initializes other = false

-- the token has been initialized
abbrev pub is_initialized : History → Bool
is_initialized (start b) = b.initialized
is_initialized (e ◁ h) = initializes (done e) || is_initialized h

-- the security officer's PIN after a call, where the call is about the security officer or not: the
-- first initialization sets it, a later one keeps it
abbrev pub so_pin_after : Option Call → Bool → Option Pin → Option Pin
so_pin_after (Some (call.InitToken pin)) about_so None = Some pin
so_pin_after (Some (call.SetPin session old new)) true before = Some new
so_pin_after other about_so before = before

-- the normal user's PIN after a call, where the call is about the normal user or not: an
-- initialization takes it away
abbrev pub user_pin_after : Option Call → Bool → Option Pin → Option Pin
user_pin_after (Some (call.InitToken pin)) about_user before = None
user_pin_after (Some (call.InitPin session pin)) about_user before = Some pin
user_pin_after (Some (call.SetPin session old new)) true before = Some new
user_pin_after other about_user before = before

abbrev pub so_pin : History → Option Pin
so_pin (start b) = b.so
so_pin (e ◁ h) = so_pin_after (done e) (is_about user.So h (done e)) (so_pin h)

abbrev pub user_pin : History → Option Pin
user_pin (start b) = b.user
user_pin (e ◁ h) = user_pin_after (done e) (is_about user.User h (done e)) (user_pin h)

abbrev pub present_pin : UserType → History → Option Pin
present_pin user.So h = so_pin h
present_pin user.User h = user_pin h

-- ---- wrong tries

-- this user's tries go back to 0: a call that is about this user's PIN was answered OK, or the
-- token was initialized
abbrev pub resets : UserType → History → Option Call → Bool
resets u h c = is_about u h c || initializes c

-- how many wrong tries of this user's PIN were made since they last went back to 0
abbrev pub tries : UserType → History → ℕ
tries u (start b) = base_tries u b
tries u (e ◁ h) =
    if resets u h (done e) then 0
    else if is_about u h (wrong_try e) then suc (tries u h)
    else tries u h

-- three wrong tries lock a user
abbrev pub is_locked : UserType → History → Bool
is_locked u h = tries u h == 3
