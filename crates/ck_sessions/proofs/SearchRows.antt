-- How the rows of sessions move with their searches
use Rattle.std.proofs.Common.{◌≡◌, ℕ, suc, ◌≤◌, Bool, true, false, cond, not, ◌&&◌, List, []}
use Rattle.std.proofs.Common.{Option, Some, None, refl, sym, ap, ◌∙◌, subst}
use Rattle.std.specs.Prelude.{◌==◌, map, option_map, is_some, is_none}
use Rattle.std.proofs.lemmas.Bool.{eqb-true, and_parts, not-true}
use Rattle.ck_journal.specs.declared.calls.Call.{Call}
use Rattle.ck_journal.specs.declared.calls.Call.TheVariants as call
use Rattle.ck_journal.specs.declared.calls.Entry.{Entry}
use Rattle.ck_journal.specs.Histories.{History, ◌◁◌, done}
use Rattle.ck_journal.specs.Effects.{effects_of, effects}
use Rattle.ck_journal.specs.Lists.{change_first}
use Rattle.ck_journal.specs.Searches.{starts_search, ends_search, asks_search, is_searching}
use Rattle.ck_journal.specs.Searches.{matching_objects, search_template, found_objects}
use Rattle.ck_journal.specs.Searches.{number_of_handle, handles_in, last_or, last_number}
use Rattle.ck_journal.specs.Sessions.{opens, openings, closes, is_open, flags_of}
use Rattle.ck_journal.proofs.Changes.{selected-replaced}
use Rattle.ck_journal.proofs.LoginMoves.{opens-left, closes-left}
use Rattle.ck_journal.proofs.NumberTests.{eqb-swap}
use Rattle.ck_journal.proofs.SearchMoves.{is_searching-left, found_objects-left, last_number-left}
use Rattle.ck_journal.proofs.SearchMoves.{matching_objects-left}
use Rattle.ck_journal.proofs.SessionMoves.{session_rows, session_rows-changed, flags_of-below}
use Rattle.ck_journal.proofs.SessionMoves.{flags_of-opened, flags_of-later}
use Rattle.ck_sessions.specs.Agreement.{search_of, session_row}
use Rattle.ck_sessions.specs.Rows.{SessionRow, is_session, new_search, with_search, with_last}
use Rattle.ck_sessions.specs.declared.searches.Search.{Search}
use Rattle.ck_sessions.specs.Rows.{with_last_found}
use Rattle.ck_sessions.specs.SearchCalls.{SetsSearch}

-- ---- one session's search after an entry

abbrev active_search : Bool → List ℕ → ℕ → Option Search
active_search active found last = cond active (Some (record { found = found; last = last })) None

-- by what was done, what matches now, what is returned, and the search before
abbrev search_step : Option Call → List ℕ → List ℕ → ℕ → Bool → List ℕ → ℕ → Option Search
search_step o matching handles k active found last =
    active_search (cond (starts_search o k) true (cond (ends_search o k) false active))
    (cond (starts_search o k) matching found)
    (cond (starts_search o k) 0
    (last_or last (map number_of_handle (cond (asks_search o k) handles []))))

abbrev row : ℕ → ℕ → Option Search → SessionRow
row k flags search = record { handle = k; flags = flags; search = search }

module _ (e : Entry) (h : History) where
  search_of-step : (k : ℕ) (o : Option Call) → done e ≡ o
      → search_of (e ◁ h) k ≡ search_step o (matching_objects (e ◁ h) (search_template o))
      (handles_in e.reply.body) k (is_searching h k) (found_objects h k) (last_number h k)
  search_of-step k o d =
      ap (λ x. search_step x (matching_objects (e ◁ h) (search_template x))
      (handles_in e.reply.body) k
      (is_searching h k) (found_objects h k) (last_number h k)) d

  search_of-left : (effects e).searches ≡ false → (k : ℕ) → search_of (e ◁ h) k ≡ search_of h k
  search_of-left l k =
      ap (λ t. active_search t (found_objects (e ◁ h) k) (last_number (e ◁ h) k))
      (is_searching-left e h l k)
      ∙ ap (λ f. active_search (is_searching h k) f (last_number (e ◁ h) k))
      (found_objects-left e h l k)
      ∙ ap (active_search (is_searching h k) (found_objects h k)) (last_number-left e h l k)

  -- ---- one session's row

  row-moved : (k : ℕ) (search : Option Search) → opens (done e) ≡ false
      → search_of (e ◁ h) k ≡ search
      → session_row (e ◁ h) k ≡ row k (flags_of h k) search
  row-moved k search o s =
      ap (λ f. row k f (search_of (e ◁ h) k)) (flags_of-later e h o k) ∙ ap (row k (flags_of h k)) s

  -- a call that opens nothing and leaves searches
  pub row-left : opens (done e) ≡ false → (effects e).searches ≡ false → (k : ℕ)
      → session_row (e ◁ h) k ≡ session_row h k
  row-left o l k = row-moved k (search_of h k) o (search_of-left l k)

  -- an opening: the sessions before it, and the new one
  module _ (flags : ℕ) (d : done e ≡ Some (call.OpenSession flags)) where
    pub row-below : (k : ℕ) → k ≤ openings h → session_row (e ◁ h) k ≡ session_row h k
    row-below k below =
        ap (λ f. row k f (search_of (e ◁ h) k)) (flags_of-below e h flags d k below)
        ∙ ap (row k (flags_of h k)) (search_of-left (ap (λ o. (effects_of o).searches) d) k)

    pub row-opened : is_searching h (suc (openings h)) ≡ false
        → session_row (e ◁ h) (suc (openings h)) ≡ row (suc (openings h)) flags None
    row-opened none =
        let n = suc (openings h) in
        ap (λ f. row n f (search_of (e ◁ h) n)) (flags_of-opened e h flags d)
        ∙ ap (row n flags) (search_of-left (ap (λ o. (effects_of o).searches) d) n ∙ ap
        (λ t. active_search t (found_objects h n) (last_number h n)) none)

  -- the closing of another session
  pub row-other : (session : ℕ) → done e ≡ Some (call.CloseSession session) → (k : ℕ)
      → (is_open h k && not (closes (done e) k)) ≡ true → session_row (e ◁ h) k ≡ session_row h k
  row-other session d k passes =
      let other : session == k ≡ false = not-true (session == k)
      ((and_parts (is_open h k) _
      (subst (λ o. (is_open h k && not (closes o k)) ≡ true) d passes)).1) in
      row-moved k (search_of h k) (ap opens d)
      (search_of-step k (Some (call.CloseSession session)) d
      ∙ ap (λ t. active_search (cond t false (is_searching h k)) (found_objects h k)
      (last_number h k)) other)

  -- a logout
  pub row-logged_out : (session : ℕ) → done e ≡ Some (call.Logout session) → (k : ℕ)
      → session_row (e ◁ h) k ≡ with_search None (session_row h k)
  row-logged_out session d k = row-moved k None (ap opens d)
      (search_of-step k (Some (call.Logout session)) d)

  -- ---- the rows after a call about the search of one session

  module _ (o : opens (done e) ≡ false) (cl : (s : ℕ) → closes (done e) s ≡ false) (session : ℕ)
      (change : SessionRow → SessionRow)
      (here : (k : ℕ) → session == k ≡ true → session_row (e ◁ h) k ≡ change (session_row h k))
      (there : (k : ℕ) → session == k ≡ false → session_row (e ◁ h) k ≡ session_row h k) where
    pub session_rows-searched : change_first (is_session session) change
        (session_rows session_row h) ≡
        session_rows session_row (e ◁ h)
    session_rows-searched =
        selected-replaced (is_session session) change (is_open h) (session_row h)
        (session_row (e ◁ h)) (openings h)
        (λ j k bj bk nj nk. eqb-true j session nj ∙ sym (eqb-true k session nk))
        (λ k b is n. here k (eqb-swap session k ∙ n)) (λ k b n. there k (eqb-swap session k ∙ n))
        ∙ sym (session_rows-changed e h o session_row cl)

  -- ---- a search starts, or ends

  module _ (c : Call) (session : ℕ) (found : Option (List ℕ)) (d : done e ≡ Some c)
      (sets : SetsSearch h c session found) where
    o : opens (done e) ≡ false
    o = opens-left (done e) (ap (λ o. (effects_of o).sessions) d ∙ sets.sessions)

    abbrev matching : List ℕ
    matching = matching_objects (e ◁ h) (search_template (Some c))

    -- by whether it is this session's search, and the search before
    set_step : (f : Option (List ℕ)) → ((numbers : List ℕ) → f ≡ Some numbers → numbers ≡ matching)
        → (t active : Bool) (before : List ℕ) (last : ℕ)
        → active_search (cond (is_some f && t) true (cond (is_none f && t) false active))
        (cond (is_some f && t) matching before) (cond (is_some f && t) 0 last) ≡ cond t
        (option_map new_search f) (active_search active before last)
    set_step None finds true active before last = refl
    set_step None finds false active before last = refl
    set_step (Some numbers) finds true active before last =
        ap (λ ns. Some (new_search ns)) (sym (finds numbers refl))
    set_step (Some numbers) finds false active before last = refl

    finds : (numbers : List ℕ) → found ≡ Some numbers → numbers ≡ matching
    finds numbers is =
        sets.finds numbers is
        ∙ sym (matching_objects-left e h (ap (λ o. (effects_of o).objects) d ∙ sets.objects)
        (ap (λ o. (effects_of o).sessions) d ∙ sets.sessions) (search_template (Some c)))

    search_of-set : (k : ℕ) (t : Bool) → session == k ≡ t
        → search_of (e ◁ h) k ≡ cond t (option_map new_search found) (search_of h k)
    search_of-set k t same =
        search_of-step k (Some c) d
        ∙ rw (sets.starts k, sets.ends k, sets.asks k, same)
        (set_step found finds t (is_searching h k) (found_objects h k) (last_number h k))

    pub session_rows-set : change_first (is_session session)
        (with_search (option_map new_search found))
        (session_rows session_row h) ≡ session_rows session_row (e ◁ h)
    session_rows-set =
        session_rows-searched o
        (λ s. closes-left (done e) s (ap (λ o. (effects_of o).sessions) d ∙ sets.sessions))
        session (with_search (option_map new_search found))
        (λ k same. row-moved k (option_map new_search found) o (search_of-set k true same))
        (λ k other. row-moved k (search_of h k) o (search_of-set k false other))

  -- ---- a search returns objects

  module _ (session max : ℕ) (d : done e ≡ Some (call.FindObjects session max)) where
    abbrev found_search : Bool → Bool → List ℕ → List ℕ → ℕ → Option Search
    found_search t active handles found last =
        active_search active found (last_or last (map number_of_handle (cond t handles [])))

    found-there : (k : ℕ) → session == k ≡ false → session_row (e ◁ h) k ≡ session_row h k
    found-there k other =
        row-moved k (search_of h k) (ap opens d)
        (search_of-step k (Some (call.FindObjects session max)) d
        ∙ ap (λ t. found_search t (is_searching h k) (handles_in e.reply.body) (found_objects h k)
        (last_number h k)) other)

    last_step : (active : Bool) (found : List ℕ) (last n after : ℕ) → after ≡ n
        → active_search active found after ≡ option_map (with_last n)
        (active_search active found last)
    last_step true found last n after same = ap (λ l. Some (record { found = found; last = l }))
        same
    last_step false found last n after same = refl

    found-here : (n : ℕ) → n ≡ last_or (last_number h session)
        (map number_of_handle (handles_in e.reply.body))
        → (k : ℕ) → session == k ≡ true
        → session_row (e ◁ h) k ≡ with_last_found n (session_row h k)
    found-here n last k same =
        row-moved k (option_map (with_last n) (search_of h k)) (ap opens d)
        (search_of-step k (Some (call.FindObjects session max)) d
        ∙ ap (λ t. found_search t (is_searching h k) (handles_in e.reply.body) (found_objects h k)
        (last_number h k)) same
        ∙ last_step (is_searching h k) (found_objects h k) (last_number h k) n
        (last_or (last_number h k) (map number_of_handle (handles_in e.reply.body)))
        (ap (λ s. last_or (last_number h s) (map number_of_handle (handles_in e.reply.body)))
        (sym (eqb-true session k same)) ∙ sym last))

    pub session_rows-found : (n : ℕ)
        → n ≡ last_or (last_number h session) (map number_of_handle (handles_in e.reply.body))
        → change_first (is_session session) (with_last_found n) (session_rows session_row h)
        ≡ session_rows
        session_row (e ◁ h)
    session_rows-found n last =
        session_rows-searched (ap opens d) (λ s. ap (λ x. closes x s) d) session (with_last_found n)
        (found-here n last) found-there
