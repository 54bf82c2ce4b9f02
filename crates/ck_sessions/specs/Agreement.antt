-- When sessions, the login and PINs are what a history says
use Rattle.std.specs.Prelude.{◌≡◌, ℕ, List, Option, Some, None, map, is_some, if◌then◌else◌}
use Rattle.ck_types.specs.declared.users.UserType.{UserType}
use Rattle.ck_types.specs.declared.users.UserType.TheVariants as user
use Rattle.ck_journal.specs.Histories.{History}
use Rattle.ck_journal.specs.Pins.{present_pin, tries, is_initialized}
use Rattle.ck_journal.specs.Searches.{is_searching, found_objects, last_number, remaining_objects}
use Rattle.ck_journal.specs.Sessions.{openings, is_open, flags_of, open_sessions, login}
use Rattle.ck_journal.specs.Sessions.{user_logins}
use Rattle.ck_sessions.specs.Rows.{SessionRow}
use Rattle.ck_sessions.specs.declared.credentials.Credential.{Credential}
use Rattle.ck_sessions.specs.declared.searches.Search.{Search}

-- the open sessions, for how many more there is room, how many have been opened, who is logged in,
-- how many times the normal user has logged in, and the PINs and wrong tries of the security
-- officer and the normal user
pub record SessionsState : Type 0 where
  pub rows : List SessionRow
  pub spare : ℕ
  pub openings : ℕ
  pub login : Option UserType
  pub logins : ℕ
  pub so : Credential
  pub user : Credential

abbrev pub credential_of : UserType → SessionsState → Credential
credential_of user.So s = s.so
credential_of user.User s = s.user

-- the session's search, where one is active
abbrev pub search_of : History → ℕ → Option Search
search_of h s =
    if is_searching h s
    then Some (record { found = found_objects h s; last = last_number h s })
    else None

-- an open session as the history has it
abbrev pub session_row : History → ℕ → SessionRow
session_row h s = record { handle = s; flags = flags_of h s; search = search_of h s }

-- the session of this handle, where it is open
abbrev pub session_at : History → ℕ → Option SessionRow
session_at h s = if is_open h s then Some (session_row h s) else None

-- what the session's search has left, where one is active
abbrev pub search_left : History → ℕ → Option (List ℕ)
search_left h s = if is_searching h s then Some (remaining_objects h s) else None

-- a user's PIN and tries are the history's
pub record CredentialAgrees (u : UserType) (h : History) (c : Credential) : Type 0 where
  pub pin : c.pin ≡ present_pin u h
  pub tries : c.tries ≡ tries u h

pub record SessionsAgree (h : History) (s : SessionsState) : Type 0 where
  pub rows : s.rows ≡ map (session_row h) (open_sessions h)
  pub openings : s.openings ≡ openings h
  pub login : s.login ≡ login h
  pub logins : s.logins ≡ user_logins h
  pub so : CredentialAgrees user.So h s.so
  pub user : CredentialAgrees user.User h s.user
  pub initialized : is_some s.so.pin ≡ is_initialized h
