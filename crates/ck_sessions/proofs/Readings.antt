-- Readings of sessions that agree with a history
use Rattle.std.proofs.Common.{◌≡◌, ℕ, Bool, true, false, not, cond, List, [], ◌∷◌, ◌++◌, Some}
use Rattle.std.proofs.Common.{None, refl, sym, ap, ◌∙◌, subst}
use Rattle.std.proofs.lemmas.List.{length-map}
use Rattle.std.proofs.lemmas.Option.{same_Some}
use Rattle.std.proofs.lemmas.Simd.{map-map}
use Rattle.std.specs.Prelude.{map, filter, find, length, nat_lt}
use Rattle.std.specs.List.{list_any}
use Rattle.std.specs.List.Sorted.{IsNonDecreasingBy}
use Rattle.ck_types.specs.TokenLimits.{Ranges}
use Rattle.ck_journal.specs.declared.boards.LoginStatus.{LoginStatus}
use Rattle.ck_journal.specs.Boards.{BoardState, board_of, login_status}
use Rattle.ck_journal.specs.Histories.{History}
use Rattle.ck_journal.specs.Sessions.{open_sessions, is_read_write, rw_sessions}
use Rattle.ck_journal.proofs.Selections.{filter-map, find-map}
use Rattle.ck_journal.proofs.SessionMoves.{find-open}
use Rattle.ck_journal.specs.Searches.{is_searching, found_objects, last_number}
use Rattle.ck_journal.proofs.RisingLemmas.{found_objects-rise}
use Rattle.ck_sessions.specs.Agreement.{SessionsState, SessionsAgree, session_row, session_at}
use Rattle.ck_sessions.specs.Agreement.{search_of, search_left}
use Rattle.ck_sessions.specs.Rows.{SessionRow, is_session, is_rw_row, is_read_only_row, board_row}
use Rattle.ck_sessions.specs.declared.searches.Search.{Search}

list_any-map : (test : SessionRow → Bool) (row : ℕ → SessionRow) (ks : List ℕ)
    → list_any test (map row ks) ≡
    list_any (λ k. test (row k)) ks
list_any-map test row [] = refl
list_any-map test row (k ∷ ks) = rw (list_any-map test row ks)

module _ (h : History) (s : SessionsState) (agree : SessionsAgree h s) where
  abbrev row_of : ℕ → SessionRow
  row_of = session_row h

  pub rw-rows : length (filter is_rw_row s.rows) ≡ length (rw_sessions h)
  rw-rows =
      ap (λ rows. length (filter is_rw_row rows)) agree.rows
      ∙ ap length (filter-map is_rw_row row_of (open_sessions h))
      ∙ length-map (rw_sessions h) row_of

  pub read_only-rows : list_any is_read_only_row s.rows ≡ list_any (λ n. not (is_read_write h n))
      (open_sessions h)
  read_only-rows = ap (list_any is_read_only_row) agree.rows ∙ list_any-map is_read_only_row row_of
      (open_sessions h)

  -- ---- a session's row

  -- the first row with the handle is that of the open session, if it is open
  pub find-session : (session : ℕ) → find (is_session session) s.rows ≡ session_at h session
  find-session session =
      ap (find (is_session session)) agree.rows ∙ find-map (is_session session) row_of
      (open_sessions h)
      ∙ find-open row_of h session

-- ---- the board

-- the board with these sessions added
abbrev pub with_rows : List SessionRow → BoardState → BoardState
with_rows rows b = record b { sessions = b.sessions ++ map board_row rows }

module _ (limits : Ranges) (h : History) (s : SessionsState) (agree : SessionsAgree h s) where
  board-rows : (rows : List SessionRow) → rows ≡ s.rows
      → map board_row rows ≡ (board_of limits h).sessions
  board-rows rows same =
      ap (map board_row) (same ∙ agree.rows) ∙ map-map board_row (session_row h) (open_sessions h)

  abbrev board_with : ℕ → LoginStatus → List (ℕ × ℕ) → BoardState
  board_with limit status sessions = record { limit = limit; sessions = sessions; status = status }

  pub board-agrees : (limit : ℕ) (status : LoginStatus) (rows : List SessionRow)
      → limit ≡ limits.sessions
      → status ≡ login_status h → rows ≡ s.rows
      → board_with limit status (map board_row rows) ≡ board_of limits h
  board-agrees limit status rows l st same =
      ap (λ n. board_with n status (map board_row rows)) l
      ∙ ap (λ x. board_with limits.sessions x (map board_row rows)) st
      ∙ ap (board_with limits.sessions (login_status h)) (board-rows rows same)

-- ---- a session's search

abbrev left_of : Search → List ℕ
left_of search = filter (λ n. nat_lt search.last n) search.found

some_case : (active : Bool) (search : Search) (x : Search) (rest : List ℕ)
    → IsNonDecreasingBy (λ n. n) search.found
    → (IsNonDecreasingBy (λ n. n) x.found → rest ≡ left_of x) → Some x ≡ cond active (Some search)
    None
    → Some rest ≡ cond active (Some (left_of search)) None
some_case true search x rest rises is e =
    let same : x ≡ search = same_Some x search e in
    ap Some (is (subst (λ (y : Search). IsNonDecreasingBy (λ n. n) y.found) (sym same) rises)
    ∙ ap left_of same)
some_case false search x rest rises is e = cc

pub search_left-some : (h : History) (s : ℕ) (x : Search) (rest : List ℕ) → Some x ≡ search_of h s
    → (IsNonDecreasingBy (λ n. n) x.found → rest ≡ left_of x) → Some rest ≡ search_left h s
search_left-some h s x rest e is =
    some_case (is_searching h s) (record { found = found_objects h s; last = last_number h s }) x
    rest
    (found_objects-rise h s) is e
