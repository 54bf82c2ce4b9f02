-- How sessions move by one entry
use Rattle.std.proofs.Common.{◌≡◌, ℕ, suc, ◌≤◌, Bool, true, false, cond, not, ◌&&◌, List, [], ◌∷◌}
use Rattle.std.proofs.Common.{◌++◌}
use Rattle.std.proofs.Common.{Option, Some, None, sym, refl, ap, ◌∙◌, arith}
use Rattle.std.specs.Prelude.{◌==◌, ◌||◌, length, filter, find, is_some, option_map}
use Rattle.std.specs.List.{list_any}
use Rattle.std.proofs.Math.Dec.{eqb-suc-zero}
use Rattle.std.proofs.Math.Bool.{and-true}
use Rattle.std.proofs.lemmas.Bool.{eqb-true}
use Rattle.std.proofs.lemmas.List.{map-id}
use Rattle.ck_journal.specs.declared.calls.Call.{Call}
use Rattle.ck_journal.specs.declared.calls.Call.TheVariants as call
use Rattle.ck_journal.specs.declared.calls.Entry.{Entry}
use Rattle.ck_journal.specs.Histories.{History, start, ◌◁◌, done}
use Rattle.ck_journal.specs.Sessions.{opens, openings, closes, is_open, opening_flags, flags_of}
use Rattle.ck_journal.specs.Sessions.{open_sessions}
use Rattle.ck_journal.specs.Sessions.{numbers}
use Rattle.ck_journal.proofs.NumberTests.{below_suc, same_number, ended_test}
use Rattle.ck_journal.proofs.Selections.{selected, selected-suc, selected-same, selected-rows_same}
use Rattle.ck_journal.proofs.Selections.{length-selected, list_any-at, list_any-selected}
use Rattle.ck_journal.proofs.Selections.{is_some-find, find-passes}

-- ---- steps, over what was done

abbrev openings_step : Option Call → ℕ → ℕ
openings_step done count = cond (opens done) (suc count) count

abbrev is_open_step : Option Call → ℕ → ℕ → Bool → Bool
is_open_step done count s was_open =
    cond (opens done && s == suc count) true (cond (closes done s) false was_open)

abbrev flags_step : Option Call → ℕ → ℕ → ℕ → ℕ
flags_step done count s flags = cond (opens done && s == suc count) (opening_flags done) flags

-- the rows of the open sessions, each as the history has it
abbrev pub session_rows : {X : Type 0} → (History → ℕ → X) → History → List X
session_rows row h = selected (is_open h) (row h) (openings h)

module _ (e : Entry) (h : History) where
  -- ---- an opening

  module _ (flags : ℕ) (d : done e ≡ Some (call.OpenSession flags)) where
    pub openings-opened : openings (e ◁ h) ≡ suc (openings h)
    openings-opened = ap (λ o. openings_step o (openings h)) d

    is_open-below : (k : ℕ) → k ≤ openings h → is_open (e ◁ h) k ≡ is_open h k
    is_open-below k below =
        ap (λ o. is_open_step o (openings h) k (is_open h k)) d
        ∙ ap (λ t. cond t true (is_open h k)) (below_suc k (openings h) below)

    pub flags_of-below : (k : ℕ) → k ≤ openings h → flags_of (e ◁ h) k ≡ flags_of h k
    flags_of-below k below =
        ap (λ o. flags_step o (openings h) k (flags_of h k)) d
        ∙ ap (λ t. cond t flags (flags_of h k)) (below_suc k (openings h) below)

    is_open-opened : is_open (e ◁ h) (suc (openings h)) ≡ true
    is_open-opened =
        ap (λ o. is_open_step o (openings h) (suc (openings h)) (is_open h (suc (openings h)))) d
        ∙ ap (λ t. cond t true (is_open h (suc (openings h)))) (same_number (suc (openings h)))

    pub flags_of-opened : flags_of (e ◁ h) (suc (openings h)) ≡ flags
    flags_of-opened =
        ap (λ o. flags_step o (openings h) (suc (openings h)) (flags_of h (suc (openings h)))) d
        ∙ ap (λ t. cond t flags (flags_of h (suc (openings h)))) (same_number (suc (openings h)))

    -- the new session's row stands last
    pub session_rows-opened : {X : Type 0} (row : History → ℕ → X)
        → ((k : ℕ) → k ≤ openings h → row (e ◁ h) k ≡ row h k)
        → session_rows row (e ◁ h) ≡ session_rows row h ++ row (e ◁ h) (suc (openings h)) ∷ []
    session_rows-opened row same =
        ap (λ n. selected (is_open (e ◁ h)) (row (e ◁ h)) n) openings-opened
        ∙ selected-suc (is_open (e ◁ h)) (row (e ◁ h)) (openings h)
        ∙ rw is_open-opened
        (ap (λ rows. rows ++ row (e ◁ h) (suc (openings h)) ∷ [])
        (selected-same (is_open (e ◁ h)) (is_open h) (row (e ◁ h)) (row h)
        (openings h) is_open-below same))

  -- ---- an entry that opens nothing

  module _ (no_opening : opens (done e) ≡ false) where
    pub openings-later : openings (e ◁ h) ≡ openings h
    openings-later = ap (λ t. cond t (suc (openings h)) (openings h)) no_opening

    is_open-later : (k : ℕ) → is_open (e ◁ h) k ≡ is_open h k && not (closes (done e) k)
    is_open-later k =
        ap (λ t. cond (t && k == suc (openings h)) true
        (cond (closes (done e) k) false (is_open h k))) no_opening
        ∙ ended_test (closes (done e) k) (is_open h k)

    pub flags_of-later : (k : ℕ) → flags_of (e ◁ h) k ≡ flags_of h k
    flags_of-later k =
        ap (λ t. cond (t && k == suc (openings h)) (opening_flags (done e)) (flags_of h k))
        no_opening

    -- the rows of the sessions that it doesn't close stay
    pub session_rows-later : {X : Type 0} (row : History → ℕ → X)
        → ((k : ℕ) → k ≤ openings h → (is_open h k && not (closes (done e) k)) ≡ true
        → row (e ◁ h) k ≡ row h k)
        → session_rows row (e ◁ h)
        ≡ selected (λ k. is_open h k && not (closes (done e) k)) (row h) (openings h)
    session_rows-later row same =
        ap (λ n. selected (is_open (e ◁ h)) (row (e ◁ h)) n) openings-later
        ∙ selected-same (is_open (e ◁ h)) (λ k. is_open h k && not (closes (done e) k))
        (row (e ◁ h))
        (row (e ◁ h)) (openings h) (λ k below. is_open-later k) (λ k below. refl)
        ∙ selected-rows_same (λ k. is_open h k && not (closes (done e) k)) (row (e ◁ h)) (row h)
        (openings h) same

    -- where it closes nothing either all stay, with what it makes of their rows
    pub session_rows-changed : {X : Type 0} (row : History → ℕ → X)
        → ((s : ℕ) → closes (done e) s ≡ false)
        → session_rows row (e ◁ h) ≡ selected (is_open h) (row (e ◁ h)) (openings h)
    session_rows-changed row no_closing =
        ap (λ n. selected (is_open (e ◁ h)) (row (e ◁ h)) n) openings-later
        ∙ selected-same (is_open (e ◁ h)) (is_open h) (row (e ◁ h)) (row (e ◁ h)) (openings h)
        (λ k below. is_open-later k ∙ ap (λ t. is_open h k && not t) (no_closing k)
        ∙ and-true (is_open h k))
        (λ k below. refl)

    pub session_rows-same : {X : Type 0} (row : History → ℕ → X)
        → ((k : ℕ) → row (e ◁ h) k ≡ row h k)
        → ((s : ℕ) → closes (done e) s ≡ false)
        → session_rows row (e ◁ h) ≡ session_rows row h
    session_rows-same row same no_closing =
        session_rows-changed row no_closing
        ∙ selected-rows_same (is_open h) (row (e ◁ h)) (row h) (openings h)
        (λ k below passes. same k)

-- ---- an open session is one of those opened

within_step : (e : Entry) (h : History) (s : ℕ) → (is_open h s ≡ true → (1 ≤ s) × (s ≤ openings h))
    → (opened closed : Bool) (same : Bool) → opens (done e) ≡ opened → s == suc (openings h) ≡ same
    → cond (opened && same) true (cond closed false (is_open h s)) ≡ true
    → (1 ≤ s) × (s ≤ cond opened (suc (openings h)) (openings h))
within_step e h s below true closed true o same is_so = let e : s ≡ suc (openings h) = eqb-true s
    (suc (openings h)) same in (omega arith, omega arith)
within_step e h s below true true false o same is_so = cc
within_step e h s below true false false o same is_so =
    let b = below is_so in (omega arith, omega arith)
within_step e h s below false true same o n is_so = cc
within_step e h s below false false same o n is_so = below is_so

pub is_open-within : (h : History) (s : ℕ) → is_open h s ≡ true → (1 ≤ s) × (s ≤ openings h)
is_open-within (start b) s is_so = cc
is_open-within (e ◁ h) s is_so =
    within_step e h s (is_open-within h s) (opens (done e)) (closes (done e) s)
    (s == suc (openings h)) refl refl is_so

some-passes : (test other : ℕ → Bool) (ks : List ℕ)
    → list_any (λ k. test k && other k) ks ≡ true → length (filter test ks) == 0 ≡ false
some-passes test other [] t = cc
some-passes test other (k ∷ ks) t = cases (test k) (other k) t (some-passes test other ks)
  where
    cases : (passes here : Bool)
        → ((passes && here) || list_any (λ k. test k && other k) ks) ≡ true
        → (list_any (λ k. test k && other k) ks ≡ true → length (filter test ks) == 0 ≡ false)
        → length (cond passes (k ∷ filter test ks) (filter test ks)) == 0 ≡ false
    cases true here t later = eqb-suc-zero (length (filter test ks))
    cases false here t later = later t

-- where a session is open, not none is
pub some-open : (h : History) (s : ℕ) → is_open h s ≡ true → length (open_sessions h) == 0 ≡ false
some-open h s t =
    some-passes (is_open h) (λ k. k == s) (numbers (openings h))
    (list_any-at (is_open h) s (openings h) (is_open-within h s) ∙ t)

-- ---- only handles

-- the handles in the rows are the open sessions
pub open_sessions-rows : (h : History) → session_rows (λ h s. s) h ≡ open_sessions h
open_sessions-rows h = map-id (open_sessions h)

-- as many rows as open sessions
pub length-session_rows : {X : Type 0} (row : History → ℕ → X) (h : History)
    → length (session_rows row h) ≡ length (open_sessions h)
length-session_rows row h = length-selected (is_open h) (row h) (openings h)

-- ---- one session's row among those of the open ones

module _ {X : Type 0} (row : ℕ → X) (h : History) (session : ℕ) where
  found-row : (found : Option ℕ) → find (λ k. k == session) (open_sessions h) ≡ found
      → is_some found ≡ is_open h session
      → option_map row found ≡ cond (is_open h session) (Some (row session)) None
  found-row None f e = ap (λ t. cond t (Some (row session)) None) e
  found-row (Some k) f e =
      let same : k ≡ session =
      eqb-true k session (find-passes (λ j. j == session) (open_sessions h) k f) in
      ap (λ j. Some (row j)) same ∙ ap (λ t. cond t (Some (row session)) None) e

  -- it is there where the session is open
  pub find-open : option_map row (find (λ k. k == session) (open_sessions h))
      ≡ cond (is_open h session) (Some (row session)) None
  find-open =
      found-row (find (λ k. k == session) (open_sessions h)) refl
      (is_some-find (λ k. k == session) (open_sessions h)
      ∙ ap (list_any (λ k. k == session)) (sym (open_sessions-rows h))
      ∙ list_any-selected (λ k. k == session) (is_open h) (λ s. s) (openings h)
      ∙ list_any-at (is_open h) session (openings h) (is_open-within h session))
