-- The board of a token: what C_GetSessionInfo and C_GetTokenInfo read of its history
use Rattle.std.specs.Prelude.{◌≡◌, ℕ, List, is_some, map}
use Rattle.ck_types.specs.TokenLimits.{Ranges}
use Rattle.ck_types.specs.declared.users.UserType.TheVariants as user
use Rattle.ck_journal.specs.declared.boards.LoginStatus.{LoginStatus}
use Rattle.ck_journal.specs.declared.calls.Call.{Call}
use Rattle.ck_journal.specs.declared.calls.Entry.{Entry}
use Rattle.ck_journal.specs.Histories.{History, ◌◁◌}
use Rattle.ck_journal.specs.Pins.{is_initialized, user_pin, tries}
use Rattle.ck_journal.specs.Sessions.{flags_of, open_sessions, login}

-- how many sessions may be open at once; the handles and flags of the open sessions, in the order
-- of their openings; and the login, which PINs there are, and the wrong tries
pub record BoardState : Type 0 where
  pub limit : ℕ
  pub sessions : List (ℕ × ℕ)
  pub status : LoginStatus

abbrev pub login_status : History → LoginStatus
login_status h =
    record {
      login = login h;
      so_tries = tries user.So h;
      user_tries = tries user.User h;
      is_initialized = is_initialized h;
      has_user_pin = is_some (user_pin h);
    }

abbrev pub board_of : Ranges → History → BoardState
board_of limits h =
    record {
      limit = limits.sessions;
      sessions = map (λ s. (s, flags_of h s)) (open_sessions h);
      status = login_status h;
    }

-- whatever its reply, the call leaves the board as it is
abbrev pub BoardStays : Call → Type 0
BoardStays c =
    (limits : Ranges) (h : History) (e : Entry) → e.call ≡ c
    → board_of limits (e ◁ h) ≡ board_of limits h
