-- How sessions, the login and PINs keep agreeing with the history
use Rattle.std.proofs.Common.{◌≡◌, ℕ, suc, ◌+◌, Bool, true, false, not, cond, ◌||◌, ◌&&◌, List, []}
use Rattle.std.proofs.Common.{◌∷◌}
use Rattle.std.proofs.Common.{◌++◌, Option, Some, None, refl, sym, ap, ◌∙◌, add-one, arith}
use Rattle.std.specs.Prelude.{◌==◌, filter, length, map, is_some, option_map, unwrap_or}
use Rattle.std.proofs.Math.Bool.{and-false}
use Rattle.std.proofs.lemmas.Bool.{eqb-true, ne_eqb, false≢true}
use Rattle.std.proofs.lemmas.Option.{same_Some}
use Rattle.std.proofs.lemmas.Simd.{map-map}
use Rattle.ck_types.specs.Users.{user_of, same_user}
use Rattle.ck_types.specs.declared.pins.Pin.{Pin}
use Rattle.ck_types.specs.declared.users.UserType.{UserType}
use Rattle.ck_types.specs.declared.users.UserType.TheVariants as user
use Rattle.ck_journal.specs.declared.calls.Call.{Call}
use Rattle.ck_journal.specs.declared.calls.Call.TheVariants as call
use Rattle.ck_journal.specs.declared.calls.Entry.{Entry}
use Rattle.ck_journal.specs.Histories.{History, ◌◁◌, done, wrong_try}
use Rattle.ck_journal.specs.Effects.{effects_of, effects}
use Rattle.ck_journal.specs.Lists.{change_first}
use Rattle.ck_journal.specs.Searches.{is_searching, handles_in, number_of_handle, last_or}
use Rattle.ck_journal.specs.Searches.{last_number}
use Rattle.ck_journal.specs.Pins.{so_pin, so_pin_after, user_pin, user_pin_after}
use Rattle.ck_journal.specs.Pins.{pin_owner, is_initialized, initializes, about, is_about, is_user}
use Rattle.ck_journal.specs.Pins.{resets, tries}
use Rattle.ck_journal.specs.Sessions.{opens, openings, closes, is_open, open_sessions, login}
use Rattle.ck_journal.specs.Sessions.{login_after, user_logins, logs_user_in, state_of}
use Rattle.ck_journal.proofs.LoginMoves.{wrong_try-done, login-none, login-open, login-same}
use Rattle.ck_journal.proofs.LoginMoves.{login-logged_out, user_logins-step, so_pin-step}
use Rattle.ck_journal.proofs.LoginMoves.{user_pin-step}
use Rattle.ck_journal.proofs.LoginMoves.{tries-step, tries-done, openings-left, opens-left}
use Rattle.ck_journal.proofs.LoginMoves.{session_rows-left, login-left, user_logins-left}
use Rattle.ck_journal.proofs.LoginMoves.{so_pin-left}
use Rattle.ck_journal.proofs.LoginMoves.{user_pin-left, is_initialized-left, tries-left}
use Rattle.ck_journal.proofs.NumberTests.{eqb-swap}
use Rattle.ck_journal.proofs.Selections.{selected-same, filter-selected, selected-none}
use Rattle.ck_journal.proofs.SessionMoves.{session_rows, openings-opened, session_rows-opened}
use Rattle.ck_journal.proofs.SessionMoves.{openings-later, session_rows-later, session_rows-changed}
use Rattle.ck_journal.proofs.SessionMoves.{session_rows-same, open_sessions-rows}
use Rattle.ck_journal.proofs.SessionMoves.{length-session_rows}
use Rattle.ck_journal.proofs.SessionMoves.{some-open}
use Rattle.ck_sessions.specs.Agreement.{SessionsState, SessionsAgree, CredentialAgrees, session_row}
use Rattle.ck_sessions.proofs.SearchRows.{row-left, row-below, row-opened, row-other}
use Rattle.ck_sessions.proofs.SearchRows.{row-logged_out}
use Rattle.ck_sessions.proofs.SearchRows.{session_rows-set, session_rows-found}
use Rattle.ck_sessions.specs.Rows.{SessionRow, is_session, new_search, with_search, with_last_found}
use Rattle.ck_sessions.specs.SearchCalls.{SetsSearch}
use Rattle.ck_sessions.specs.declared.credentials.Credential.{Credential}

abbrev so_pin_of : History → Option Pin
so_pin_of h = so_pin h

-- the first initialization sets the PIN of the security officer
pub Some-unwrap_or : (pin : Pin) (before : Option Pin)
    → Some (unwrap_or before pin) ≡ so_pin_after (Some (call.InitToken pin)) true before
Some-unwrap_or pin None = refl
Some-unwrap_or pin (Some before) = refl

-- an initialized token has a PIN of the security officer
some_after : (pin : Pin) (before : Option Pin)
    → is_some (so_pin_after (Some (call.InitToken pin)) true before) ≡ true
some_after pin None = refl
some_after pin (Some before) = refl

-- a list with one more item isn't empty
more : (rows : List SessionRow) (row : SessionRow) → length (rows ++ row ∷ []) ≡ 0 → ⊥
more [] row e = omega arith
more (r ∷ rows) row e = omega arith

-- the normal user's number is 1
user_case : (u : UserType) (number : ℕ) (so us : Bool) → number == 0 ≡ so → number == 1 ≡ us
    → cond so (Some user.So) (cond us (Some user.User) None) ≡ Some u → us ≡ same_user user.User u
user_case u number true true a b e =
    let zero : number ≡ 0 = eqb-true number 0 a in
    let one : number ≡ 1 = eqb-true number 1 b in
    absurd (omega arith)
user_case u number true false a b e = ap (same_user user.User) (same_Some user.So u e)
user_case u number false true a b e = ap (same_user user.User) (same_Some user.User u e)
user_case u number false false a b e = cc

user_number : (u : UserType) (number : ℕ) → user_of number ≡ Some u
    → number == 1 ≡ same_user user.User u
user_number u number = user_case u number (number == 0) (number == 1) refl refl

module _ (h : History) (old : SessionsState) (agree : SessionsAgree h old) (e : Entry) where
  -- ---- rows of a call that opens and closes nothing

  openings-stay : (c : Call) → done e ≡ Some c → opens (Some c) ≡ false
      → old.openings ≡ openings (e ◁ h)
  openings-stay c d o = agree.openings ∙ sym (openings-later e h (ap opens d ∙ o))

  module _ (c : Call) (d : done e ≡ Some c) (o : opens (Some c) ≡ false)
      (cl : (s : ℕ) → closes (Some c) s ≡ false) (ls : (effects_of (Some c)).searches ≡ false) where
    no_opening : opens (done e) ≡ false
    no_opening = ap opens d ∙ o

    no_closing : (s : ℕ) → closes (done e) s ≡ false
    no_closing s = ap (λ x. closes x s) d ∙ cl s

    rows-stay : old.rows ≡ session_rows session_row (e ◁ h)
    rows-stay =
        agree.rows
        ∙ sym (session_rows-same e h no_opening session_row
        (row-left e h no_opening (ap (λ o. (effects_of o).searches) d ∙ ls)) no_closing)

    sessions-stay : open_sessions (e ◁ h) ≡ open_sessions h
    sessions-stay =
        sym (open_sessions-rows (e ◁ h)) ∙ session_rows-same e h no_opening (λ h s. s) (λ k. refl)
        no_closing
        ∙ open_sessions-rows h

    login-stays : ((before : Option UserType) → login_after (Some c) before ≡ before)
        → old.login ≡ login (e ◁ h)
    login-stays left =
        agree.login ∙ sym (login-same e h sessions-stay (ap (λ x. login_after x (login h)) d
        ∙ left (login h)))

  logins-stay : (c : Call) → done e ≡ Some c → logs_user_in (Some c) ≡ false
      → old.logins ≡ user_logins (e ◁ h)
  logins-stay c d n =
      agree.logins ∙ sym (user_logins-step e h (Some c) d
      ∙ ap (λ t. cond t (suc (user_logins h)) (user_logins h)) n)

  initialized-stays : (c : Call) → done e ≡ Some c → initializes (Some c) ≡ false
      → is_some old.so.pin ≡ is_initialized (e ◁ h)
  initialized-stays c d n = agree.initialized
      ∙ sym (ap (λ x. initializes x || is_initialized h) d ∙ ap (λ t. t || is_initialized h) n)

  -- a credential that a call leaves
  so-stays : (c : Call) → done e ≡ Some c
      → ((before : Option Pin) → so_pin_after (Some c) (is_about user.So h (Some c))
      before ≡ before)
      → resets user.So h (Some c) ≡ false → CredentialAgrees user.So (e ◁ h) old.so
  so-stays c d pin r = record {
    pin = agree.so.pin ∙ sym (so_pin-step e h (Some c) d ∙ pin (so_pin h));
    tries = agree.so.tries
        ∙ sym (tries-done e h user.So c d ∙ ap (λ t. cond t 0 (tries user.So h)) r);
  }

  user-stays : (c : Call) → done e ≡ Some c
      → ((before : Option Pin) → user_pin_after (Some c) (is_about user.User h (Some c))
      before ≡ before)
      → resets user.User h (Some c) ≡ false → CredentialAgrees user.User (e ◁ h) old.user
  user-stays c d pin r = record {
    pin = agree.user.pin ∙ sym (user_pin-step e h (Some c) d ∙ pin (user_pin h));
    tries = agree.user.tries
        ∙ sym (tries-done e h user.User c d ∙ ap (λ t. cond t 0 (tries user.User h)) r);
  }

  -- ---- an entry that leaves all of it as it is

  -- the list of sessions, the login and PINs stay
  pub SessionsAgree-same : (effects e).sessions ≡ false
      → ((u : UserType) → is_about u h (wrong_try e) ≡ false)
      → (new : SessionsState)
      → new.rows ≡ session_rows session_row (e ◁ h) → new.openings ≡ old.openings
      → new.login ≡ old.login
      → new.logins ≡ old.logins → new.so ≡ old.so → new.user ≡ old.user
      → SessionsAgree (e ◁ h) new
  SessionsAgree-same l w new rows count log logs so us = record {
    rows = rows;
    openings = count ∙ agree.openings ∙ sym (openings-left e h l);
    login = log ∙ agree.login ∙ sym (login-left e h l);
    logins = logs ∙ agree.logins ∙ sym (user_logins-left e h l);
    so =
        rw so (record {
          pin = agree.so.pin ∙ sym (so_pin-left e h l);
          tries = agree.so.tries ∙ sym
              (tries-left e h l user.So (w user.So));
        });
    user =
        rw us (record {
          pin = agree.user.pin ∙ sym (user_pin-left e h l);
          tries = agree.user.tries ∙ sym
              (tries-left e h l user.User (w user.User));
        });
    initialized = ap (λ (c : Credential). is_some c.pin) so ∙ agree.initialized
        ∙ sym (is_initialized-left e h l);
  }

  rows-left : (effects e).sessions ≡ false → (effects e).searches ≡ false
      → session_rows session_row (e ◁ h) ≡ session_rows session_row h
  rows-left l ls = session_rows-left e h l session_row (row-left e h (opens-left (done e) l) ls)

  pub sessions-left : (effects e).sessions ≡ false → (effects e).searches ≡ false
      → ((u : UserType) → is_about u h (wrong_try e) ≡ false) → SessionsAgree (e ◁ h) old
  sessions-left l ls w = SessionsAgree-same l w old (agree.rows ∙ sym (rows-left l ls)) refl refl
      refl refl refl

  -- a call about searches, which is answered OK
  SessionsAgree-searched : (c : Call) → done e ≡ Some c → (effects_of (Some c)).sessions ≡ false
      → (new : SessionsState) → new.rows ≡ session_rows session_row (e ◁ h)
      → new.openings ≡ old.openings → new.login ≡ old.login → new.logins ≡ old.logins
      → new.so ≡ old.so
      → new.user ≡ old.user → SessionsAgree (e ◁ h) new
  SessionsAgree-searched c d l new rows count log logs so us =
      SessionsAgree-same (ap (λ o. (effects_of o).sessions) d ∙ l)
      (λ u. ap (is_about u h) (wrong_try-done e c d)) new rows count log logs so us

  -- ---- a wrong try

  other_user : (u v : UserType) (a : Option UserType) → a ≡ Some u → is_user v a ≡ same_user v u
  other_user u v a x = ap (is_user v) x

  tries-wrong : (u v : UserType) → done e ≡ None → about h (wrong_try e) ≡ Some u
      → tries v (e ◁ h) ≡ cond (same_user v u) (suc (tries v h)) (tries v h)
  tries-wrong u v d a =
      tries-step e h v None (wrong_try e) d refl
      ∙ ap (λ t. cond t (suc (tries v h)) (tries v h)) (other_user u v (about h (wrong_try e)) a)

  pub SessionsAgree-wrong : (u : UserType) (new : SessionsState) → done e ≡ None
      → about h (wrong_try e) ≡ Some u
      → new.rows ≡ old.rows → new.openings ≡ old.openings → new.login ≡ old.login
      → new.logins ≡ old.logins
      → new.so.pin ≡ old.so.pin → new.user.pin ≡ old.user.pin
      → new.so.tries ≡ cond (same_user user.So u) (suc old.so.tries) old.so.tries
      → new.user.tries ≡ cond (same_user user.User u) (suc old.user.tries) old.user.tries
      → SessionsAgree (e ◁ h) new
  SessionsAgree-wrong u new d a rows count login logins so_pin user_pin so_tries user_tries =
      let l : (effects e).sessions ≡ false = ap (λ o. (effects_of o).sessions) d in
      record {
        rows = rows ∙ agree.rows ∙ sym (rows-left l (ap (λ o. (effects_of o).searches) d));
        openings = count ∙ agree.openings ∙ sym (openings-left e h l);
        login = login ∙ agree.login ∙ sym (login-left e h l);
        logins = logins ∙ agree.logins ∙ sym (user_logins-left e h l);
        so =
            record {
              pin = so_pin ∙ agree.so.pin ∙ sym (so_pin-left e h l);
              tries = so_tries ∙ rw
                  agree.so.tries (sym (tries-wrong u user.So d a));
            };
        user =
            record {
              pin = user_pin ∙ agree.user.pin ∙ sym (user_pin-left e h l);
              tries = user_tries ∙ rw
                  agree.user.tries (sym (tries-wrong u user.User d a));
            };
        initialized = ap is_some so_pin ∙ agree.initialized ∙ sym (is_initialized-left e h l);
      }

  -- ---- openings and closings

  pub SessionsAgree-opened : (flags : ℕ) (new : SessionsState)
      → done e ≡ Some (call.OpenSession flags)
      → is_searching h (suc (openings h)) ≡ false
      → new.rows ≡ old.rows ++ record { handle = old.openings + 1; flags = flags; search = None }
      ∷ []
      → new.openings ≡ old.openings + 1 → new.login ≡ old.login → new.logins ≡ old.logins
      → new.so ≡ old.so
      → new.user ≡ old.user → SessionsAgree (e ◁ h) new
  SessionsAgree-opened flags new d none rows count log logs so us =
      let c = call.OpenSession flags in
      let all : session_rows session_row (e ◁ h) ≡ session_rows session_row h ++ record
      { handle = suc (openings h); flags = flags; search = None } ∷ [] =
      session_rows-opened e h flags d session_row (row-below e h flags d)
      ∙ ap (λ r. session_rows session_row h ++ r ∷ []) (row-opened e h flags d none) in
      let some : length (open_sessions (e ◁ h)) == 0 ≡ false =
      ne_eqb (length (open_sessions (e ◁ h))) 0 (λ z. more (session_rows session_row h)
      (record { handle = suc (openings h); flags = flags; search = None })
      (sym (ap length all) ∙ length-session_rows session_row (e ◁ h) ∙ z)) in
      record {
        rows = rows ∙ rw (agree.rows, agree.openings, add-one) (sym all);
        openings = count ∙ rw (agree.openings, add-one) (sym (openings-opened e h flags d));
        login = log ∙ agree.login ∙ sym (login-open e h (Some c) d some);
        logins = logs ∙ logins-stay c d refl;
        so = rw so (so-stays c d (λ before. refl) refl);
        user = rw us (user-stays c d (λ before. refl) refl);
        initialized = ap (λ (c : Credential). is_some c.pin) so ∙ initialized-stays c d refl;
      }

  -- a call that opens nothing, closes some sessions and leaves the rest
  closed : (c : Call) (new : SessionsState) → done e ≡ Some c → opens (Some c) ≡ false
      → ((before : Option UserType) → login_after (Some c) before ≡ before)
      → new.rows ≡ session_rows session_row (e ◁ h) → new.openings ≡ old.openings
      → new.login ≡ cond (length new.rows == 0) None old.login
      → new.login ≡ login (e ◁ h)
  closed c new d o left rows count log =
      log ∙ ap (λ rs. cond (length rs == 0) None old.login) rows
      ∙ ap (λ n. cond (n == 0) None old.login) (length-session_rows session_row (e ◁ h))
      ∙ ap (cond (length (open_sessions (e ◁ h)) == 0) None)
      (agree.login ∙ sym (ap (λ x. login_after x (login h)) d ∙ left (login h)))

  pub SessionsAgree-closed : (session : ℕ) (new : SessionsState)
      → done e ≡ Some (call.CloseSession session)
      → new.rows ≡ filter (λ (row : SessionRow). not (is_session session row)) old.rows
      → new.openings ≡
      old.openings → new.login ≡ cond (length new.rows == 0) None old.login
      → new.logins ≡ old.logins → new.so ≡ old.so → new.user ≡ old.user → SessionsAgree (e ◁ h) new
  SessionsAgree-closed session new d rows count log logs so us =
      let c = call.CloseSession session in
      let all : new.rows ≡ session_rows session_row (e ◁ h) =
      rows ∙ ap (filter (λ (row : SessionRow). not (is_session session row))) agree.rows
      ∙ filter-selected (λ (row : SessionRow). not (is_session session row)) (is_open h)
      (session_row h) (openings h)
      ∙ selected-same (λ k. is_open h k && not (k == session))
      (λ k. is_open h k && not (closes (done e) k))
      (session_row h) (session_row h) (openings h)
      (λ k below. ap (λ t. is_open h k && not t)
      (eqb-swap k session ∙ ap (λ x. closes x k) (sym d))) (λ k below. refl)
      ∙ sym (session_rows-later e h (ap opens d) session_row
      (λ k below passes. row-other e h session d k passes)) in
      record {
        rows = all;
        openings = count ∙ openings-stay c d refl;
        login = closed c new d refl (λ before. refl) all count log;
        logins = logs ∙ logins-stay c d refl;
        so = rw so (so-stays c d (λ before. refl) refl);
        user = rw us (user-stays c d (λ before. refl) refl);
        initialized = ap (λ (c : Credential). is_some c.pin) so ∙ initialized-stays c d refl;
      }

  pub SessionsAgree-all_closed : (new : SessionsState) → done e ≡ Some call.CloseAllSessions
      → new.rows ≡ []
      → new.openings ≡ old.openings → new.login ≡ None
      → new.logins ≡ old.logins → new.so ≡ old.so → new.user ≡ old.user → SessionsAgree (e ◁ h) new
  SessionsAgree-all_closed new d rows count log logs so us =
      let c = call.CloseAllSessions in
      let all : session_rows session_row (e ◁ h) ≡ [] =
      session_rows-later e h (ap opens d) session_row
      (λ k below passes. absurd
      (false≢true (sym (ap (λ x. is_open h k && not (closes x k)) d ∙ and-false
      (is_open h k)) ∙ passes)))
      ∙ selected-none (λ k. is_open h k && not (closes (done e) k)) (session_row h) (openings h)
      (λ k below. ap (λ x. is_open h k && not (closes x k)) d ∙ and-false (is_open h k)) in
      let none : length (open_sessions (e ◁ h)) == 0 ≡ true =
      rw (sym (length-session_rows session_row (e ◁ h)), all) in
      record {
        rows = rows ∙ sym all;
        openings = count ∙ openings-stay c d refl;
        login = log ∙ sym (login-none (e ◁ h) none);
        logins = logs ∙ logins-stay c d refl;
        so = rw so (so-stays c d (λ before. refl) refl);
        user = rw us (user-stays c d (λ before. refl) refl);
        initialized = ap (λ (c : Credential). is_some c.pin) so ∙ initialized-stays c d refl;
      }

  -- ---- a login

  pub SessionsAgree-logged_in : (session number : ℕ) (pin : Pin) (u : UserType)
      (new : SessionsState)
      → done e ≡ Some (call.Login session number pin)
      → is_open h session ≡ true → user_of number ≡ Some u → new.rows ≡ old.rows
      → new.openings ≡ old.openings
      → new.login ≡ Some u
      → new.logins ≡ cond (same_user user.User u) (suc old.logins) old.logins
      → new.so.pin ≡ old.so.pin
      → new.user.pin ≡ old.user.pin
      → new.so.tries ≡ cond (same_user user.So u || false) 0 old.so.tries
      → new.user.tries ≡ cond (same_user user.User u || false) 0 old.user.tries
      → SessionsAgree (e ◁ h) new
  SessionsAgree-logged_in session number pin u new d opened known rows count log logs so_pin
      user_pin so_tries
      user_tries =
      let c = call.Login session number pin in
      let same = sessions-stay c d refl (λ s. refl) refl in
      let some : length (open_sessions (e ◁ h)) == 0 ≡ false = ap (λ ss. length ss == 0) same
      ∙ some-open h session opened in
      record {
        rows = rows ∙ rows-stay c d refl (λ s. refl) refl;
        openings = count ∙ openings-stay c d refl;
        login = log ∙ sym known ∙ sym (login-open e h (Some c) d some);
        logins =
            logs ∙ ap (λ t. cond t (suc old.logins) old.logins) (sym (user_number u number known))
            ∙ ap (λ n. cond (number == 1) (suc n) n) agree.logins
            ∙ sym (user_logins-step e h (Some c) d);
        so = record {
          pin = so_pin ∙ agree.so.pin ∙ sym (so_pin-step e h (Some c) d);
          tries = so_tries ∙ ap (cond (same_user user.So u || false) 0) agree.so.tries
              ∙ sym (tries-done e h user.So c d ∙ ap (λ a. cond (is_user user.So a || false) 0
              (tries user.So h)) known);
        };
        user = record {
          pin = user_pin ∙ agree.user.pin ∙ sym (user_pin-step e h (Some c) d);
          tries = user_tries ∙ ap (cond (same_user user.User u || false) 0) agree.user.tries
              ∙ sym (tries-done e h user.User c d ∙ ap (λ a. cond (is_user user.User a || false) 0
              (tries user.User h)) known);
        };
        initialized = ap is_some so_pin ∙ initialized-stays c d refl;
      }

  -- ---- PINs

  pub SessionsAgree-initialized : (pin : Pin) (new : SessionsState)
      → done e ≡ Some (call.InitToken pin)
      → new.rows ≡ old.rows → new.openings ≡ old.openings
      → new.login ≡ old.login → new.logins ≡ old.logins
      → new.so.pin ≡ so_pin_after (Some (call.InitToken pin)) true old.so.pin → new.so.tries ≡ 0
      → new.user.pin ≡ None → new.user.tries ≡ 0 → SessionsAgree (e ◁ h) new
  SessionsAgree-initialized pin new d rows count log logs so_pin so_tries user_pin user_tries =
      let c = call.InitToken pin in
      record {
        rows = rows ∙ rows-stay c d refl (λ s. refl) refl;
        openings = count ∙ openings-stay c d refl;
        login = log ∙ login-stays c d refl (λ s. refl) refl (λ before. refl);
        logins = logs ∙ logins-stay c d refl;
        so =
            record {
              pin = so_pin ∙ rw agree.so.pin (sym (so_pin-step e h (Some c) d));
              tries = so_tries ∙ sym
                  (tries-done e h user.So c d);
            };
        user =
            record {
              pin = user_pin ∙ sym (user_pin-step e h (Some c) d);
              tries = user_tries ∙ sym
                  (tries-done e h user.User c d);
            };
        initialized = ap is_some so_pin ∙ some_after pin old.so.pin
            ∙ sym (ap (λ x. initializes x || is_initialized h) d);
      }

  pub SessionsAgree-pin_initialized : (session : ℕ) (pin : Pin) (new : SessionsState)
      → done e ≡ Some (call.InitPin session pin) → new.rows ≡ old.rows
      → new.openings ≡ old.openings → new.login ≡ old.login → new.logins ≡ old.logins
      → new.so ≡ old.so
      → new.user.pin ≡ Some pin → new.user.tries ≡ 0 → SessionsAgree (e ◁ h) new
  SessionsAgree-pin_initialized session pin new d rows count log logs so user_pin user_tries =
      let c = call.InitPin session pin in
      record {
        rows = rows ∙ rows-stay c d refl (λ s. refl) refl;
        openings = count ∙ openings-stay c d refl;
        login = log ∙ login-stays c d refl (λ s. refl) refl (λ before. refl);
        logins = logs ∙ logins-stay c d refl;
        so = rw so (so-stays c d (λ before. refl) refl);
        user =
            record {
              pin = user_pin ∙ sym (user_pin-step e h (Some c) d);
              tries = user_tries ∙ sym
                  (tries-done e h user.User c d);
            };
        initialized = ap (λ (c : Credential). is_some c.pin) so ∙ initialized-stays c d refl;
      }

  -- the owner of the session's PIN sets it
  module _ (session : ℕ) (before pin : Pin) (new : SessionsState)
      (d : done e ≡ Some (call.SetPin session before pin)) (rows : new.rows ≡ old.rows)
      (count : new.openings ≡ old.openings) (log : new.login ≡ old.login)
      (logs : new.logins ≡ old.logins) where
    abbrev c : Call
    c = call.SetPin session before pin

    pub SessionsAgree-so_pin_set : pin_owner (state_of h session) ≡ user.So
        → is_some old.so.pin ≡ true
        → new.so.pin ≡ Some pin → new.so.tries ≡ 0 → new.user ≡ old.user
        → SessionsAgree (e ◁ h) new
    SessionsAgree-so_pin_set owner had so_pin so_tries us = record {
      rows = rows ∙ rows-stay c d refl (λ s. refl) refl;
      openings = count ∙ openings-stay c d refl;
      login = log ∙ login-stays c d refl (λ s. refl) refl (λ b. refl);
      logins = logs ∙ logins-stay c d refl;
      so = record {
        pin = so_pin ∙ sym (so_pin-step e h (Some c) d
            ∙ ap (λ o. so_pin_after (Some c) (same_user user.So o) (so_pin_of h)) owner);
        tries = so_tries
            ∙ sym (tries-done e h user.So c d ∙ ap (λ o. cond (is_user user.So (Some o) || false) 0
            (tries user.So h)) owner);
      };
      user = rw us (record {
        pin =
            agree.user.pin
            ∙ sym (user_pin-step e h (Some c) d
            ∙ ap (λ o. user_pin_after (Some c) (same_user user.User o) (user_pin h)) owner);
        tries = agree.user.tries
            ∙ sym (tries-done e h user.User c d
            ∙ ap (λ o. cond (is_user user.User (Some o) || false) 0
            (tries user.User h)) owner);
      });
      initialized = ap is_some so_pin ∙ sym had ∙ initialized-stays c d refl;
    }

    pub SessionsAgree-user_pin_set : pin_owner (state_of h session) ≡ user.User → new.so ≡ old.so
        → new.user.pin ≡ Some pin → new.user.tries ≡ 0 → SessionsAgree (e ◁ h) new
    SessionsAgree-user_pin_set owner so us_pin us_tries = record {
      rows = rows ∙ rows-stay c d refl (λ s. refl) refl;
      openings = count ∙ openings-stay c d refl;
      login = log ∙ login-stays c d refl (λ s. refl) refl (λ b. refl);
      logins = logs ∙ logins-stay c d refl;
      so = rw so (record {
        pin = agree.so.pin ∙ sym (so_pin-step e h (Some c) d
            ∙ ap (λ o. so_pin_after (Some c) (same_user user.So o) (so_pin_of h)) owner);
        tries = agree.so.tries
            ∙ sym (tries-done e h user.So c d ∙ ap (λ o. cond (is_user user.So (Some o) || false) 0
            (tries user.So h)) owner);
      });
      user = record {
        pin = us_pin ∙ sym (user_pin-step e h (Some c) d
            ∙ ap (λ o. user_pin_after (Some c) (same_user user.User o) (user_pin h)) owner);
        tries = us_tries
            ∙ sym (tries-done e h user.User c d
            ∙ ap (λ o. cond (is_user user.User (Some o) || false) 0
            (tries user.User h)) owner);
      };
      initialized = ap (λ (c : Credential). is_some c.pin) so ∙ initialized-stays c d refl;
    }

  -- ---- searches

  module _ (new : SessionsState) (count : new.openings ≡ old.openings) (log : new.login ≡ old.login)
      (logs : new.logins ≡ old.logins) (so : new.so ≡ old.so)
      (us : new.user ≡ old.user) where
    pub SessionsAgree-set : (c : Call) (session : ℕ) (found : Option (List ℕ)) → done e ≡ Some c
        → SetsSearch h c session found
        → new.rows ≡ change_first (is_session session) (with_search (option_map new_search found))
        old.rows
        → SessionsAgree (e ◁ h) new
    SessionsAgree-set c session found d sets rows =
        SessionsAgree-searched c d sets.sessions new
        (rows ∙ ap (change_first (is_session session) (with_search (option_map new_search found)))
        agree.rows
        ∙ session_rows-set e h c session found d sets) count log logs so us

    pub SessionsAgree-found : (session max number : ℕ)
        → done e ≡ Some (call.FindObjects session max)
        → number ≡ last_or (last_number h session) (map number_of_handle (handles_in e.reply.body))
        → new.rows ≡ change_first (is_session session) (with_last_found number) old.rows
        → SessionsAgree (e ◁ h) new
    SessionsAgree-found session max number d last rows =
        SessionsAgree-searched (call.FindObjects session max) d refl new
        (rows ∙ ap (change_first (is_session session) (with_last_found number)) agree.rows
        ∙ session_rows-found e h session max d number last) count log logs so us

  -- a logout ends the login and all searches
  pub SessionsAgree-logged_out : (session : ℕ) (new : SessionsState)
      → done e ≡ Some (call.Logout session)
      → new.rows ≡ map (with_search None) old.rows
      → new.openings ≡ old.openings → new.login ≡ None → new.logins ≡ old.logins → new.so ≡ old.so
      → new.user ≡ old.user → SessionsAgree (e ◁ h) new
  SessionsAgree-logged_out session new d rows count log logs so us =
      let c = call.Logout session in
      record {
        rows =
            rows ∙ ap (map (with_search None)) agree.rows
            ∙ map-map (with_search None) (session_row h) (open_sessions h)
            ∙ selected-same (is_open h) (is_open h) (λ k. with_search None (session_row h k))
            (session_row (e ◁ h)) (openings h) (λ k b. refl)
            (λ k b. sym (row-logged_out e h session d k))
            ∙ sym (session_rows-changed e h (ap opens d) session_row (λ s. ap (λ x. closes x s) d));
        openings = count ∙ openings-stay c d refl;
        login = log ∙ sym (login-logged_out e h session d);
        logins = logs ∙ logins-stay c d refl;
        so = rw so (so-stays c d (λ before. refl) refl);
        user = rw us (user-stays c d (λ before. refl) refl);
        initialized = ap (λ (c : Credential). is_some c.pin) so ∙ initialized-stays c d refl;
      }
