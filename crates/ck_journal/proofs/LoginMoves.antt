-- How the login, PINs and wrong tries move by one entry
use Rattle.std.proofs.Common.{◌≡◌, ℕ, suc, Bool, true, false, cond, ◌||◌, Option, Some, None}
use Rattle.std.proofs.Common.{length}
use Rattle.std.proofs.Common.{refl, sym, ap, ◌∙◌}
use Rattle.std.specs.Prelude.{◌==◌}
use Rattle.std.proofs.lemmas.Option.{cond_some}
use Rattle.ck_types.specs.declared.pins.Pin.{Pin}
use Rattle.ck_types.specs.declared.return_codes.Rv.{Rv}
use Rattle.ck_types.specs.declared.return_codes.Rv.TheVariants as rv
use Rattle.ck_types.specs.declared.users.UserType.{UserType}
use Rattle.ck_types.specs.declared.users.UserType.TheVariants as user
use Rattle.ck_journal.specs.declared.calls.Call.{Call}
use Rattle.ck_journal.specs.declared.calls.Call.TheVariants as call
use Rattle.ck_journal.specs.declared.calls.Entry.{Entry}
use Rattle.ck_journal.specs.Histories.{History, start, ◌◁◌, done, wrong_try, is_ok, is_wrong_pin}
use Rattle.ck_journal.specs.Effects.{effects_of, effects}
use Rattle.ck_journal.specs.Pins.{so_pin, so_pin_after, user_pin, user_pin_after}
use Rattle.ck_journal.specs.Pins.{is_initialized, initializes, is_about, resets, tries}
use Rattle.ck_journal.proofs.SessionMoves.{session_rows, session_rows-same, openings-later}
use Rattle.ck_journal.proofs.SessionMoves.{open_sessions-rows}
use Rattle.ck_journal.specs.Sessions.{opens, openings, closes, open_sessions, login, login_after}
use Rattle.ck_journal.specs.Sessions.{logs_user_in, user_logins}

-- ---- an entry is answered OK, or is a wrong try, or neither

ok_wrong : (code : Rv) → is_ok code ≡ true → is_wrong_pin code ≡ false
ok_wrong rv.Ok ok = refl
ok_wrong (rv.Error code) ok = cc

-- what was answered OK is no wrong try
pub wrong_try-done : (e : Entry) (c : Call) → done e ≡ Some c → wrong_try e ≡ None
wrong_try-done e c d =
    ap (λ t. cond t (Some e.call) None)
    (ok_wrong e.reply.rv (cond_some (is_ok e.reply.rv) e.call c d).0)

-- ---- the login

-- nobody is logged in where no session is open
pub login-none : (h : History) → length (open_sessions h) == 0 ≡ true → login h ≡ None
login-none (start b) none = refl
login-none (e ◁ h) none = ap (λ t. cond t None (login_after (done e) (login h))) none

none_twice : (t : Bool) → ◌≡◌ {A = Option UserType} (cond t None None) None
none_twice true = refl
none_twice false = refl

module _ (e : Entry) (h : History) where
  -- where a session is open, the call decides
  pub login-open : (o : Option Call) → done e ≡ o → length (open_sessions (e ◁ h)) == 0 ≡ false
      → login (e ◁ h) ≡ login_after o (login h)
  login-open o d some =
      ap (λ t. cond t None (login_after (done e) (login h))) some
      ∙ ap (λ x. login_after x (login h)) d

  login_test : (none : Bool) (before : Option UserType) → (none ≡ true → before ≡ None)
      → cond none None before ≡ before
  login_test true before h = sym (h refl)
  login_test false before h = refl

  -- where the open sessions stay and the call leaves the login, it stays
  pub login-same : open_sessions (e ◁ h) ≡ open_sessions h
      → login_after (done e) (login h) ≡ login h
      → login (e ◁ h) ≡ login h
  login-same sessions after =
      ap (λ s. cond (length s == 0) None (login_after (done e) (login h))) sessions
      ∙ ap (cond (length (open_sessions h) == 0) None) after
      ∙ login_test (length (open_sessions h) == 0) (login h) (login-none h)

  -- a logout logs out whatever sessions are open
  pub login-logged_out : (session : ℕ) → done e ≡ Some (call.Logout session) → login (e ◁ h) ≡ None
  login-logged_out session d =
      ap (λ o. cond (length (open_sessions (e ◁ h)) == 0) None (login_after o (login h))) d
      ∙ none_twice (length (open_sessions (e ◁ h)) == 0)

  pub user_logins-step : (o : Option Call) → done e ≡ o
      → user_logins (e ◁ h) ≡ cond (logs_user_in o) (suc (user_logins h)) (user_logins h)
  user_logins-step o d = ap (λ x. cond (logs_user_in x) (suc (user_logins h)) (user_logins h)) d

  -- ---- PINs

  pub so_pin-step : (o : Option Call) → done e ≡ o
      → so_pin (e ◁ h) ≡ so_pin_after o (is_about user.So h o) (so_pin h)
  so_pin-step o d = ap (λ x. so_pin_after x (is_about user.So h x) (so_pin h)) d

  pub user_pin-step : (o : Option Call) → done e ≡ o
      → user_pin (e ◁ h) ≡ user_pin_after o (is_about user.User h o) (user_pin h)
  user_pin-step o d = ap (λ x. user_pin_after x (is_about user.User h x) (user_pin h)) d

  -- ---- tries

  pub tries-step : (u : UserType) (o w : Option Call) → done e ≡ o → wrong_try e ≡ w
      → tries u (e ◁ h) ≡ cond (resets u h o) 0
      (cond (is_about u h w) (suc (tries u h)) (tries u h))
  tries-step u o w d x =
      ap (λ o. cond (resets u h o) 0
      (cond (is_about u h (wrong_try e)) (suc (tries u h)) (tries u h))) d
      ∙ ap (λ w. cond (resets u h o) 0 (cond (is_about u h w) (suc (tries u h)) (tries u h))) x

  -- after a call that was answered OK
  pub tries-done : (u : UserType) (c : Call) → done e ≡ Some c
      → tries u (e ◁ h) ≡ cond (resets u h (Some c)) 0 (tries u h)
  tries-done u c d = tries-step u (Some c) None d (wrong_try-done e c d)

-- ---- an entry that leaves sessions, the login and PINs as they are

pub opens-left : (c : Option Call) → (effects_of c).sessions ≡ false → opens c ≡ false
opens-left (Some (call.OpenSession flags)) l = cc
opens-left other l = refl

pub closes-left : (c : Option Call) (s : ℕ) → (effects_of c).sessions ≡ false → closes c s ≡ false
closes-left (Some (call.CloseSession session)) s l = cc
closes-left (Some call.CloseAllSessions) s l = cc
closes-left other s l = refl

login_after-left : (c : Option Call) (before : Option UserType) → (effects_of c).sessions ≡ false
    → login_after c before ≡ before
login_after-left (Some (call.Login session user pin)) before l = cc
login_after-left (Some (call.Logout session)) before l = cc
login_after-left other before l = refl

logs_user_in-left : (c : Option Call) → (effects_of c).sessions ≡ false → logs_user_in c ≡ false
logs_user_in-left (Some (call.Login session user pin)) l = cc
logs_user_in-left other l = refl

so_pin_after-left : (c : Option Call) (about_so : Bool) (before : Option Pin)
    → (effects_of c).sessions ≡ false → so_pin_after c about_so before ≡ before
so_pin_after-left (Some (call.InitToken pin)) about_so before l = cc
so_pin_after-left (Some (call.SetPin session old new)) about_so before l = cc
so_pin_after-left other about_so before l = refl

user_pin_after-left : (c : Option Call) (about_user : Bool) (before : Option Pin)
    → (effects_of c).sessions ≡ false → user_pin_after c about_user before ≡ before
user_pin_after-left (Some (call.InitToken pin)) about_user before l = cc
user_pin_after-left (Some (call.InitPin session pin)) about_user before l = cc
user_pin_after-left (Some (call.SetPin session old new)) about_user before l = cc
user_pin_after-left other about_user before l = refl

initializes-left : (c : Option Call) → (effects_of c).sessions ≡ false → initializes c ≡ false
initializes-left (Some (call.InitToken pin)) l = cc
initializes-left other l = refl

resets-left : (u : UserType) (h : History) (c : Option Call) → (effects_of c).sessions ≡ false
    → resets u h c ≡ false
resets-left u h (Some (call.InitToken pin)) l = cc
resets-left u h (Some (call.InitPin session pin)) l = cc
resets-left u h (Some (call.SetPin session old new)) l = cc
resets-left u h (Some (call.Login session user pin)) l = cc
resets-left u h other l = refl

module _ (e : Entry) (h : History) (l : (effects e).sessions ≡ false) where
  pub openings-left : openings (e ◁ h) ≡ openings h
  openings-left = openings-later e h (opens-left (done e) l)

  pub session_rows-left : {X : Type 0} (row : History → ℕ → X) → ((k : ℕ) → row (e ◁ h) k ≡ row h k)
      → session_rows row (e ◁ h) ≡ session_rows row h
  session_rows-left row same =
      session_rows-same e h (opens-left (done e) l) row same (λ s. closes-left (done e) s l)

  open_sessions-left : open_sessions (e ◁ h) ≡ open_sessions h
  open_sessions-left =
      sym (open_sessions-rows (e ◁ h)) ∙ session_rows-left (λ h s. s) (λ k. refl)
      ∙ open_sessions-rows h

  pub login-left : login (e ◁ h) ≡ login h
  login-left = login-same e h open_sessions-left (login_after-left (done e) (login h) l)

  pub user_logins-left : user_logins (e ◁ h) ≡ user_logins h
  user_logins-left =
      ap (λ t. cond t (suc (user_logins h)) (user_logins h)) (logs_user_in-left (done e) l)

  pub so_pin-left : so_pin (e ◁ h) ≡ so_pin h
  so_pin-left = so_pin_after-left (done e) (is_about user.So h (done e)) (so_pin h) l

  pub user_pin-left : user_pin (e ◁ h) ≡ user_pin h
  user_pin-left = user_pin_after-left (done e) (is_about user.User h (done e)) (user_pin h) l

  pub is_initialized-left : is_initialized (e ◁ h) ≡ is_initialized h
  is_initialized-left = ap (λ t. t || is_initialized h) (initializes-left (done e) l)

  -- and is no wrong try of the user's PIN
  pub tries-left : (u : UserType) → is_about u h (wrong_try e) ≡ false → tries u (e ◁ h) ≡ tries u h
  tries-left u n = rw (resets-left u h (done e) l, n)
