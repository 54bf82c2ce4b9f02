-- Users and the states of sessions (PKCS #11 Base 3.0, Session types)
use Rattle.std.specs.Prelude.{ℕ, Bool, true, false, Option, Some, None, ◌==◌, if◌then◌else◌}
use Rattle.ck_types.specs.declared.users.SessionState.{SessionState}
use Rattle.ck_types.specs.declared.users.SessionState.TheVariants as state
use Rattle.ck_types.specs.declared.users.UserType.{UserType}
use Rattle.ck_types.specs.declared.users.UserType.TheVariants as user

-- CKU_SO is 0, CKU_USER is 1
abbrev pub user_of : ℕ → Option UserType
user_of number = if number == 0 then Some user.So else if number == 1 then Some user.User else None

abbrev pub user_number : UserType → ℕ
user_number user.So = 0
user_number user.User = 1

abbrev pub same_user : UserType → UserType → Bool
same_user user.So user.So = true
same_user user.User user.User = true
same_user user.So user.User = false
same_user user.User user.So = false

abbrev pub session_state_number : SessionState → ℕ
session_state_number state.RoPublic = 0
session_state_number state.RoUser = 1
session_state_number state.RwPublic = 2
session_state_number state.RwUser = 3
session_state_number state.RwSo = 4

-- the state of a session, by who is logged in and whether the session is read/write. While the
-- security officer is logged in, no session is read-only.
abbrev pub session_state : Option UserType → Bool → SessionState
session_state None false = state.RoPublic
session_state None true = state.RwPublic
session_state (Some user.User) false = state.RoUser
session_state (Some user.User) true = state.RwUser
session_state (Some user.So) is_read_write = state.RwSo
