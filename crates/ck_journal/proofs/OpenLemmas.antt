-- No more sessions are open than the limit allows
use Rattle.std.proofs.Common.{◌≡◌, ℕ, suc, ◌+◌, ◌<◌, ◌≤◌, Bool, true, false, not, List, [], ◌∷◌}
use Rattle.std.proofs.Common.{Option, Some, None, length, length-append, refl, sym, ap, ◌∙◌, arith}
use Rattle.std.specs.Prelude.{◌==◌, ◌&&◌, bit_and, nat_le, filter}
use Rattle.std.proofs.lemmas.List.Sums.{length-filter, count_by-le-length}
use Rattle.ck_types.specs.Checks.{error_if}
use Rattle.ck_types.specs.TokenLimits.{Ranges}
use Rattle.ck_types.specs.declared.errors.RvError.TheVariants as rv_error
use Rattle.ck_types.specs.declared.users.UserType.TheVariants as user
use Rattle.ck_types.proofs.CheckLemmas.{or_else-none}
use Rattle.ck_journal.specs.declared.calls.Call.{Call}
use Rattle.ck_journal.specs.declared.calls.Call.TheVariants as call
use Rattle.ck_journal.specs.declared.calls.Entry.{Entry}
use Rattle.ck_journal.specs.Answers.{IsLegal, open_session_error}
use Rattle.ck_journal.specs.Histories.{History, start, ◌◁◌, done}
use Rattle.ck_journal.specs.Pins.{is_initialized, is_user}
use Rattle.ck_journal.specs.Sessions.{opens, openings, closes, is_open, open_sessions, has_rw_flag}
use Rattle.ck_journal.specs.Sessions.{login}
use Rattle.ck_journal.proofs.LegalLemmas.{later-passes, count-free, passed-done}
use Rattle.ck_journal.proofs.Selections.{selected-none, filter-selected}
use Rattle.ck_journal.proofs.SessionMoves.{session_rows, session_rows-opened, session_rows-later}
use Rattle.ck_journal.proofs.SessionMoves.{open_sessions-rows}

filter-shorter : (test : ℕ → Bool) (ks : List ℕ) → length (filter test ks) ≤ length ks
filter-shorter test ks = omega (arith, length-filter test ks, count_by-le-length test ks)

pub opening-call : (c : Option Call) → opens c ≡ true
    → (flags : ℕ) × (c ≡ Some (call.OpenSession flags))
opening-call (Some (call.OpenSession flags)) o = (flags, refl)
opening-call other o = cc

module _ (limits : Ranges) where
  opening-room : (h : History) (flags : ℕ) → open_session_error limits h flags ≡ None
      → length (open_sessions h) < limits.sessions
  opening-room h flags p =
      count-free limits.sessions (length (open_sessions h)) rv_error.SessionCount
      (or_else-none (error_if (nat_le limits.sessions (length (open_sessions h)))
      rv_error.SessionCount) _
      (later-passes
      (error_if (not (has_rw_flag flags) && is_user user.So (login h))
      rv_error.SessionReadWriteSoExists) _
      (later-passes (error_if (not (bit_and flags 6 == flags)) rv_error.ArgumentsBad) _
      (later-passes (error_if (bit_and flags 4 == 0) rv_error.SessionParallelNotSupported) _
      (later-passes (error_if (not (is_initialized h)) rv_error.TokenNotRecognized) _ p))))).0

  opened-bound : (e : Entry) (h : History) (flags : ℕ) → done e ≡ Some (call.OpenSession flags)
      → length (open_sessions h) < limits.sessions
      → length (open_sessions (e ◁ h)) ≤ limits.sessions
  opened-bound e h flags d room =
      let rows =
      sym (open_sessions-rows (e ◁ h))
      ∙ session_rows-opened e h flags d (λ h s. s) (λ k below. refl) in
      let one : length (open_sessions (e ◁ h)) ≡ length (session_rows (λ h s. s) h) + 1 =
      ap length rows ∙ length-append (session_rows (λ h s. s) h) (suc (openings h) ∷ []) in
      omega (arith, ap length (open_sessions-rows h))

  later-bound : (e : Entry) (h : History) → opens (done e) ≡ false
      → length (open_sessions h) ≤ limits.sessions
      → length (open_sessions (e ◁ h)) ≤ limits.sessions
  later-bound e h no_opening below =
      let rows = sym (open_sessions-rows (e ◁ h))
      ∙ session_rows-later e h no_opening (λ h s. s) (λ k below passes. refl)
      ∙ sym (filter-selected (λ k. not (closes (done e) k)) (is_open h) (λ s. s) (openings h)) in
      let less = filter-shorter (λ k. not (closes (done e) k)) (session_rows (λ h s. s) h) in
      omega (arith, ap length rows, ap length (open_sessions-rows h))

  by_opening : (t : Bool) (e : Entry) (h : History) → IsLegal limits (e ◁ h)
      → length (open_sessions h) ≤ limits.sessions
      → opens (done e) ≡ t → length (open_sessions (e ◁ h)) ≤ limits.sessions
  by_opening true e h legal below o =
      let c = opening-call (done e) o in
      opened-bound e h c.0 c.1 (opening-room h c.0
      (passed-done limits e h legal (call.OpenSession c.0) c.1))
  by_opening false e h legal below o = later-bound e h o below

  pub open-bound : (h : History) → IsLegal limits h → length (open_sessions h) ≤ limits.sessions
  open-bound (start b) legal =
      let none = sym (open_sessions-rows (start b))
      ∙ selected-none (is_open (start b)) (λ s. s) (openings (start b)) (λ k below. refl) in
      omega (arith, ap length none)
  open-bound (e ◁ h) legal = by_opening (opens (done e)) e h legal (open-bound h legal.1) refl
