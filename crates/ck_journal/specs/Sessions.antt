-- Sessions, the login and session states (PKCS #11 Base 3.0, Session management functions)
use Rattle.std.specs.Prelude.{ℕ, zero, suc, Bool, true, false, List, [], ◌∷◌, ◌++◌, Option, Some}
use Rattle.std.specs.Prelude.{None, ◌==◌, ◌&&◌, not, filter, length, bit_and, if◌then◌else◌}
use Rattle.ck_types.specs.Users.{user_of, session_state}
use Rattle.ck_types.specs.declared.users.SessionState.{SessionState}
use Rattle.ck_types.specs.declared.users.UserType.{UserType}
use Rattle.ck_journal.specs.declared.calls.Call.{Call}
use Rattle.ck_journal.specs.declared.calls.Call.TheVariants as call
use Rattle.ck_journal.specs.Histories.{History, start, ◌◁◌, done}

-- the numbers from 1 to n, rising
abbrev pub numbers : ℕ → List ℕ
numbers zero = []
numbers (suc n) = numbers n ++ suc n ∷ []

-- ---- sessions

abbrev pub opens : Option Call → Bool
opens (Some (call.OpenSession flags)) = true
opens other = false

-- how many sessions have been opened; a session's handle is this count, its own opening included
abbrev pub openings : History → ℕ
openings (start b) = b.openings
openings (e ◁ h) = if opens (done e) then suc (openings h) else openings h

abbrev pub closes : Option Call → ℕ → Bool
closes (Some (call.CloseSession session)) s = session == s
closes (Some call.CloseAllSessions) s = true
closes other s = false

-- the session was opened and hasn't been closed since
abbrev pub is_open : History → ℕ → Bool
is_open (start b) s = false
is_open (e ◁ h) s =
    if opens (done e) && s == suc (openings h) then true
    else if closes (done e) s then false
    else is_open h s

abbrev pub logs_out : Option Call → Bool
logs_out (Some (call.Logout session)) = true
logs_out other = false

-- what ends all operations of the session, its search among them: what closes it, and any logout
abbrev pub ends_operations : Option Call → ℕ → Bool
ends_operations c s = if logs_out c then true else closes c s

abbrev pub opening_flags : Option Call → ℕ
opening_flags (Some (call.OpenSession flags)) = flags
opening_flags other = 0

-- the flags that the session was opened with
abbrev pub flags_of : History → ℕ → ℕ
flags_of (start b) s = 0
flags_of (e ◁ h) s =
    if opens (done e) && s == suc (openings h) then opening_flags (done e) else flags_of h s

-- the open sessions, in the order of their openings
abbrev pub open_sessions : History → List ℕ
open_sessions h = filter (is_open h) (numbers (openings h))

-- the flag CKF_RW_SESSION, which is 2, is set
abbrev pub has_rw_flag : ℕ → Bool
has_rw_flag flags = not (bit_and flags 2 == 0)

abbrev pub is_read_write : History → ℕ → Bool
is_read_write h s = has_rw_flag (flags_of h s)

abbrev pub rw_sessions : History → List ℕ
rw_sessions h = filter (is_read_write h) (open_sessions h)

-- ---- the login, which all sessions share

-- who is logged in after a call, by who was before
abbrev pub login_after : Option Call → Option UserType → Option UserType
login_after (Some (call.Login session user pin)) before = user_of user
login_after (Some (call.Logout session)) before = None
login_after other before = before

-- who is logged in: the user of the last login; nobody where there was none, or where a logout or a
-- front without an open session came after it
abbrev pub login : History → Option UserType
login (start b) = None
login (e ◁ h) = if length (open_sessions (e ◁ h)) == 0 then None else login_after (done e) (login h)

-- the call logs the normal user in (CKU_USER is 1)
abbrev pub logs_user_in : Option Call → Bool
logs_user_in (Some (call.Login session user pin)) = user == 1
logs_user_in other = false

-- how many times the normal user has logged in
abbrev pub user_logins : History → ℕ
user_logins (start b) = b.logins
user_logins (e ◁ h) = if logs_user_in (done e) then suc (user_logins h) else user_logins h

abbrev pub state_of : History → ℕ → SessionState
state_of h s = session_state (login h) (is_read_write h s)
