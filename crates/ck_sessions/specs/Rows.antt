-- A session as contracts see it
use Rattle.std.specs.Prelude.{ℕ, Bool, List, Option, ◌==◌, not, option_map}
use Rattle.std.specs.Option.{option_map_or}
use Rattle.ck_journal.specs.Sessions.{has_rw_flag}
use Rattle.ck_sessions.specs.declared.searches.Search.{Search}

-- a search that found the objects of these numbers, and has returned none
abbrev pub new_search : List ℕ → Search
new_search found = record { found = found; last = 0 }

-- a session: its handle, the flags that it was opened with, and its search, where one is active
pub record SessionRow : Type 0 where
  pub handle : ℕ
  pub flags : ℕ
  pub search : Option Search

abbrev pub is_session : ℕ → SessionRow → Bool
is_session handle row = row.handle == handle

abbrev pub is_rw_row : SessionRow → Bool
is_rw_row row = has_rw_flag row.flags

abbrev pub is_read_only_row : SessionRow → Bool
is_read_only_row row = not (has_rw_flag row.flags)

-- the number of the object that the session's search returned last; 0 where it has no search, or
-- one that has returned none
abbrev pub last_found : SessionRow → ℕ
last_found row = option_map_or (λ (s : Search). s.last) row.search 0

-- the session with this search, or none
abbrev pub with_search : Option Search → SessionRow → SessionRow
with_search search row = record row { search = search }

-- the search that has returned the object of this number last
abbrev pub with_last : ℕ → Search → Search
with_last number search = record search { last = number }

-- the session whose search, if it has one, has returned the object of this number last
abbrev pub with_last_found : ℕ → SessionRow → SessionRow
with_last_found number row = record row { search = option_map (with_last number) row.search }

-- what the board has of a session: its handle and flags
abbrev pub board_row : SessionRow → ℕ × ℕ
board_row row = (row.handle, row.flags)
