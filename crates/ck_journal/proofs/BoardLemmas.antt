-- What the board of a token answers, and which calls leave it
use Rattle.std.proofs.Common.{◌≡◌, ℕ, Bool, true, false, not, cond, Some, None, refl}
use Rattle.std.proofs.Common.{sym, ap, ◌∙◌, subst}
use Rattle.std.proofs.lemmas.List.{length-map}
use Rattle.std.specs.Prelude.{◌==◌, map, filter, find, length}
use Rattle.std.proofs.lemmas.Option.{cond_some}
use Rattle.ck_types.specs.Checks.{error_if}
use Rattle.ck_types.specs.TokenFlagBits.{token_flags}
use Rattle.ck_types.specs.TokenLimits.{Ranges}
use Rattle.ck_types.specs.Users.{session_state}
use Rattle.ck_types.specs.declared.errors.RvError.TheVariants as rv_error
use Rattle.ck_types.specs.declared.token_flags.TokenFlags.{TokenFlags}
use Rattle.ck_types.specs.declared.users.SessionState.{SessionState}
use Rattle.ck_types.specs.declared.users.UserType.{UserType}
use Rattle.ck_types.specs.declared.users.UserType.TheVariants as user
use Rattle.ck_journal.specs.declared.boards.LoginStatus.{LoginStatus}
use Rattle.ck_journal.specs.declared.calls.Call.{Call}
use Rattle.ck_journal.specs.declared.calls.Call.TheVariants as call
use Rattle.ck_journal.specs.declared.calls.Entry.{Entry}
use Rattle.ck_journal.specs.declared.replies.Body.TheVariants as body
use Rattle.ck_journal.specs.declared.replies.Reply.{Reply}
use Rattle.ck_journal.specs.Answers.{answer, flags_of_token, ok, refusal, unless}
use Rattle.ck_journal.specs.Boards.{BoardState, board_of, login_status, BoardStays}
use Rattle.ck_journal.specs.Histories.{History, ◌◁◌, done, is_ok, is_wrong_pin}
use Rattle.ck_journal.specs.Effects.{effects_of, effects}
use Rattle.ck_journal.specs.Pins.{about, is_about, is_user, tries}
use Rattle.ck_journal.specs.Sessions.{is_open, flags_of, open_sessions, rw_sessions}
use Rattle.ck_journal.specs.Sessions.{has_rw_flag, login, state_of}
use Rattle.ck_journal.proofs.LoginMoves.{session_rows-left, login-left, user_pin-left}
use Rattle.ck_journal.proofs.LoginMoves.{is_initialized-left, tries-left, opens-left}
use Rattle.ck_journal.proofs.Selections.{filter-map, find-map}
use Rattle.ck_journal.proofs.Selections.{cond_none}
use Rattle.ck_journal.proofs.SessionMoves.{find-open, flags_of-later}

abbrev row_of : History → ℕ → ℕ × ℕ
row_of h s = (s, flags_of h s)

-- ---- readings

module _ (h : History) where
  -- the row of a session, where it is open
  pub find-row : (session : ℕ)
      → find (λ (row : ℕ × ℕ). row.0 == session) (map (row_of h) (open_sessions h))
      ≡ cond (is_open h session) (Some (session, flags_of h session)) None
  find-row session =
      find-map (λ (row : ℕ × ℕ). row.0 == session) (row_of h) (open_sessions h)
      ∙ find-open (row_of h) h session

  pub rw-rows : length (filter (λ (row : ℕ × ℕ). has_rw_flag row.1)
      (map (row_of h) (open_sessions h))) ≡
      length (rw_sessions h)
  rw-rows =
      ap length (filter-map (λ (row : ℕ × ℕ). has_rw_flag row.1) (row_of h) (open_sessions h))
      ∙ length-map (rw_sessions h) (row_of h)

  pub length-rows : length (map (row_of h) (open_sessions h)) ≡ length (open_sessions h)
  length-rows = length-map (open_sessions h) (row_of h)

module _ (limits : Ranges) (h : History) (session : ℕ) where
  abbrev info_by : Bool → SessionState → ℕ → Reply
  info_by t s flags =
      unless (error_if (not t) rv_error.SessionHandleInvalid) (ok (body.Session s flags))

  pub info-closed : find (λ (row : ℕ × ℕ). row.0 == session) (board_of limits h).sessions ≡ None
      → refusal rv_error.SessionHandleInvalid ≡ answer limits h (call.GetSessionInfo session)
  info-closed none =
      let closed : is_open h session ≡ false = cond_none (is_open h session) (row_of h session)
      (sym (find-row h session) ∙ none) in
      ap (λ t. info_by t (state_of h session) (flags_of h session)) (sym closed)

  pub info-open : (row : ℕ × ℕ) (s : SessionState)
      → find (λ (row : ℕ × ℕ). row.0 == session) (board_of limits h).sessions ≡ Some row
      → s ≡ session_state (login h) (has_rw_flag row.1)
      → ok (body.Session s row.1) ≡ answer limits h (call.GetSessionInfo session)
  info-open row s found is =
      let at =
      cond_some (is_open h session) (row_of h session) row (sym (find-row h session) ∙ found) in
      let flags : row.1 ≡ flags_of h session = ap (λ (r : ℕ × ℕ). r.1) (sym at.1) in
      ap (λ x. ok (body.Session x row.1)) is
      ∙ ap (λ x. ok (body.Session (session_state (login h) (has_rw_flag x)) x)) flags
      ∙ ap (λ t. info_by t (state_of h session) (flags_of h session)) (sym at.0)

-- what C_GetTokenInfo answers of a token with this board
abbrev info_of : BoardState → TokenFlags → ℕ → Reply
info_of b flags writable = ok (body.Token flags b.limit (length b.sessions) writable)

abbrev flags_on : LoginStatus → ℕ
flags_on s = token_flags s.is_initialized s.has_user_pin s.user_tries s.so_tries

abbrev bits_as_flags : ℕ → TokenFlags
bits_as_flags n = record { 0 = n }

pub info-of_token : (limits : Ranges) (h : History) (b : BoardState) → b ≡ board_of limits h
    → (flags : TokenFlags) (writable : ℕ) → flags.0 ≡ flags_on b.status
    → writable ≡ length (filter (λ (row : ℕ × ℕ). has_rw_flag row.1) b.sessions)
    → info_of b flags writable ≡ answer limits h call.GetTokenInfo
info-of_token limits h b is flags writable f r =
    let same_flags : flags ≡ flags_of_token h =
    ap bits_as_flags (f ∙ ap (λ x. flags_on x.status) is) in
    let same_rw : writable ≡ length (rw_sessions h) = r
    ∙ ap (λ x. length (filter (λ (row : ℕ × ℕ). has_rw_flag row.1) x.sessions)) is ∙ rw-rows h in
    ap (λ x. info_of x flags writable) is
    ∙ ap (λ n. ok (body.Token flags limits.sessions n writable)) (length-rows h)
    ∙ ap (λ x. ok (body.Token x limits.sessions (length (open_sessions h)) writable)) same_flags
    ∙ ap (λ n. ok (body.Token (flags_of_token h) limits.sessions (length (open_sessions h)) n))
    same_rw

-- ---- calls that leave the board

about-left : (h : History) (c : Call) → (effects_of (Some c)).sessions ≡ false
    → about h (Some c) ≡ None
about-left h (call.InitToken pin) l = cc
about-left h (call.InitPin session pin) l = cc
about-left h (call.SetPin session old new) l = cc
about-left h (call.Login session user pin) l = cc
about-left h other l = refl

if_done : (t : Bool) (c : Call) → (effects_of (Some c)).sessions ≡ false
    → (effects_of (cond t (Some c) None)).sessions ≡ false
if_done true c l = l
if_done false c l = refl

if_wrong : (u : UserType) (h : History) (t : Bool) (c : Call)
    → (effects_of (Some c)).sessions ≡ false
    → is_about u h (cond t (Some c) None) ≡ false
if_wrong u h true c l = ap (is_user u) (about-left h c l)
if_wrong u h false c l = refl

module _ (h : History) (e : Entry) (l : (effects_of (Some e.call)).sessions ≡ false) where
  done-left : (effects e).sessions ≡ false
  done-left = if_done (is_ok e.reply.rv) e.call l

  tries-stay : (u : UserType) → tries u (e ◁ h) ≡ tries u h
  tries-stay u = tries-left e h done-left u (if_wrong u h (is_wrong_pin e.reply.rv) e.call l)

  rows-stay : map (row_of (e ◁ h)) (open_sessions (e ◁ h)) ≡ map (row_of h) (open_sessions h)
  rows-stay =
      session_rows-left e h done-left row_of
      (λ k. ap (λ flags. (k, flags)) (flags_of-later e h (opens-left (done e) done-left) k))

  status-stays : login_status (e ◁ h) ≡ login_status h
  status-stays =
      rw (
        login-left e h done-left,
        tries-stay user.So,
        tries-stay user.User,
        is_initialized-left e h
            done-left,
        user_pin-left e h done-left,
      ) refl

  board-stays : (limits : Ranges) → board_of limits (e ◁ h) ≡ board_of limits h
  board-stays limits = rw (rows-stay, status-stays) refl

-- a call that may change neither sessions, the login nor PINs leaves the board as it is
pub stays : (c : Call) → (effects_of (Some c)).sessions ≡ false → BoardStays c
stays c l limits h e same =
    board-stays h e (subst (λ x. (effects_of (Some x)).sessions ≡ false) (sym same) l) limits
