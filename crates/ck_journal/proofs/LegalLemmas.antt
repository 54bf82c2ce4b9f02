-- What is so in every legal history that starts from a sound base, where the limits are in range
use Rattle.std.proofs.Common.{◌≡◌, ◌≢◌, ℕ, suc, ◌<◌, ◌≤◌, ◌^◌, Bool, true, false, cond, not, ◌&&◌}
use Rattle.std.proofs.Common.{List}
use Rattle.std.proofs.Common.{[], ◌∷◌, Option, Some, None, length, refl, sym, ap, ◌∙◌, subst, arith}
use Rattle.std.specs.Prelude.{◌==◌, is_none, nat_le, nat_lt, bit_and, option_and_then}
use Rattle.std.specs.List.{list_any}
use Rattle.std.specs.Option.{option_map_or}
use Rattle.std.proofs.lemmas.Bool.{eqb-true, eqb-false, ne_eqb, leb-false, not-false}
use Rattle.std.proofs.lemmas.Bool.{false_from_ne_true, false≢true}
use Rattle.std.proofs.lemmas.Option.{same_Some, cond_some}
use Rattle.ck_types.specs.Checks.{error_if, or_else, first_of}
use Rattle.ck_types.specs.Pins.{fits_a_pin}
use Rattle.ck_objects.specs.KeyStates.{state_of_number}
use Rattle.ck_types.specs.Mechanisms.{is_key_generator}
use Rattle.ck_objects.specs.Records.{created_items, generated_items, with_given, with_state, is_set}
use Rattle.ck_objects.specs.Records.{protections_of, placement_of, copied_error, changed_error}
use Rattle.ck_objects.specs.Records.{is_key, state_in}
use Rattle.ck_objects.specs.Templates.{class_of, created_error, generated_error}
use Rattle.ck_types.specs.TokenLimits.{Ranges, AreInRange}
use Rattle.ck_types.specs.Users.{user_of}
use Rattle.ck_objects.specs.declared.attributes.Attribute.TheVariants as attribute
use Rattle.ck_types.specs.declared.errors.RvError.{RvError}
use Rattle.ck_types.specs.declared.errors.RvError.TheVariants as rv_error
use Rattle.ck_objects.specs.declared.items.Item.{Item}
use Rattle.ck_objects.specs.declared.key_states.KeyState.{KeyState}
use Rattle.ck_types.specs.declared.pins.Pin.{Pin}
use Rattle.ck_types.specs.declared.return_codes.Rv.TheVariants as rv
use Rattle.ck_types.specs.declared.users.UserType.{UserType}
use Rattle.ck_types.specs.declared.users.UserType.TheVariants as user
use Rattle.ck_objects.proofs.ChangeLemmas.{token-kept, private-kept, token-in_state}
use Rattle.ck_objects.proofs.ChangeLemmas.{private-in_state}
use Rattle.ck_types.proofs.CheckLemmas.{or_else-none, error_if-none}
use Rattle.ck_journal.specs.declared.bases.Base.{Base}
use Rattle.ck_journal.specs.declared.calls.Call.{Call}
use Rattle.ck_journal.specs.declared.calls.Call.TheVariants as call
use Rattle.ck_journal.specs.declared.calls.Entry.{Entry}
use Rattle.ck_journal.specs.declared.operations.OperationKind.TheVariants as kind
use Rattle.ck_journal.specs.declared.replies.Body.TheVariants as body
use Rattle.ck_journal.specs.declared.replies.Reply.{Reply}
use Rattle.ck_journal.specs.Answers.{unless, refusal, session_error, pin_error, init_token_error}
use Rattle.ck_journal.specs.Answers.{init_pin_error, set_pin_error, known_login_error}
use Rattle.ck_journal.specs.Answers.{user_login_error}
use Rattle.ck_journal.specs.Answers.{logged_in_error, read_only_error, logins_error, object_error}
use Rattle.ck_journal.specs.Answers.{prohibited_error, placement_error, read_only_session_error}
use Rattle.ck_journal.specs.Answers.{creations_error, too_small, ok, bytes_reply, call_error}
use Rattle.ck_journal.specs.Answers.{allowed_reply, answer, IsLegal, is_so_state, tag_in}
use Rattle.ck_journal.specs.Answers.{parameter_error, key_error, transition_error}
use Rattle.ck_journal.specs.Answers.{state_change_error}
use Rattle.ck_journal.specs.Bases.{base_tries, IsSound}
use Rattle.ck_journal.specs.Histories.{History, start, ◌◁◌, start_of, done, wrong_try, is_ok}
use Rattle.ck_journal.specs.Histories.{is_wrong_pin}
use Rattle.ck_journal.specs.Objects.{creates, creations, object_at, object_after, attributes_named}
use Rattle.ck_journal.specs.Objects.{attributes_or_empty, session_of, view_of, names_with, in_state}
use Rattle.ck_journal.specs.Operations.{message_in}
use Rattle.ck_journal.specs.Pins.{about, is_about, is_user, is_locked, is_initialized, is_pin}
use Rattle.ck_journal.specs.Pins.{pin_owner, present_pin, resets, tries}
use Rattle.ck_journal.specs.Queries.{asks_hidden, is_missing, lacks_room}
use Rattle.ck_journal.specs.Searches.{starts_search, ends_search, is_searching}
use Rattle.ck_journal.specs.Sessions.{opens, openings, closes, is_open, open_sessions, has_rw_flag}
use Rattle.ck_journal.specs.Sessions.{is_read_write, login, logs_user_in, user_logins, state_of}
use Rattle.ck_journal.proofs.ObjectMoves.{object_at-within}
use Rattle.ck_journal.proofs.SessionMoves.{is_open-within}

-- ---- what was answered OK passed its checks

checks-passed : (error : Option RvError) (reply : Reply) → is_ok (unless error reply).rv ≡ true
    → error ≡ None
checks-passed None reply ok = refl
checks-passed (Some code) reply ok = cc

pub passed : (limits : Ranges) (e : Entry) (h : History) → IsLegal limits (e ◁ h)
    → is_ok e.reply.rv ≡ true → call_error limits h e.call ≡ None
passed limits e h legal ok =
    checks-passed (call_error limits h e.call) (allowed_reply limits h e.call)
    (subst (λ (reply : Reply). is_ok reply.rv ≡ true) legal.0 ok)

pub passed-done : (limits : Ranges) (e : Entry) (h : History) → IsLegal limits (e ◁ h) → (c : Call)
    → done e ≡ Some c → call_error limits h c ≡ None
passed-done limits e h legal c d =
    let did = cond_some (is_ok e.reply.rv) e.call c d in
    subst (λ c. call_error limits h c ≡ None) did.1 (passed limits e h legal did.0)

allowed-answer : (error : Option RvError) (reply : Reply) → error ≡ None
    → unless error reply ≡ reply
allowed-answer None reply none = refl
allowed-answer (Some code) reply none = cc

-- and has the reply of a call that passes them
pub allowed-done : (limits : Ranges) (e : Entry) (h : History) → IsLegal limits (e ◁ h) → (c : Call)
    → done e ≡ Some c → e.reply ≡ allowed_reply limits h c
allowed-done limits e h legal c d =
    let did = cond_some (is_ok e.reply.rv) e.call c d in
    legal.0 ∙ ap (answer limits h) did.1
    ∙ allowed-answer (call_error limits h c) (allowed_reply limits h c)
    (passed-done limits e h legal c d)

-- what is so of no call, and of every call that passes its checks, is so of what an entry did
pub by-done : (limits : Ranges) (e : Entry) (h : History) → IsLegal limits (e ◁ h)
    → (P : Option Call → Type 0)
    → P None → ((c : Call) → call_error limits h c ≡ None → P (Some c)) → P (done e)
by-done limits e h legal P none each = cases (is_ok e.reply.rv) refl
  where
    cases : (ok : Bool) → is_ok e.reply.rv ≡ ok → P (cond ok (Some e.call) None)
    cases true ok = each e.call (passed limits e h legal ok)
    cases false ok = none

-- ---- a check that fails answers its code

pub refused : (limits : Ranges) (h : History) (c : Call) (code : RvError)
    → call_error limits h c ≡ Some code → answer limits h c ≡ refusal code
refused limits h c code e = ap (λ error. unless error (allowed_reply limits h c)) e

-- ---- checks that pass

pub later-passes : (first later : Option RvError) → or_else first later ≡ None → later ≡ None
later-passes first later e = (or_else-none first later e).1

pub last-passes : (last : Option RvError) → first_of (last ∷ []) ≡ None → last ≡ None
last-passes last e = (or_else-none last None e).0

pub session-open : (h : History) (session : ℕ) → session_error h session ≡ None
    → is_open h session ≡ true
session-open h session e =
    not-false (is_open h session)
    (error_if-none (not (is_open h session)) rv_error.SessionHandleInvalid e)

pub count-free : (most count : ℕ) (code : RvError) → error_if (nat_le most count) code ≡ None
    → count < most
count-free most count code e = leb-false most count (error_if-none (nat_le most count) code e)

-- the checks of an object that a handle names: it names one, and they pass
pub object-found : (found : Option (List Item)) (checks : List Item → Option RvError)
    (code : RvError) → option_map_or checks found (Some code) ≡ None
    → (attributes : List Item) × (found ≡ Some attributes) × (checks attributes ≡ None)
object-found None checks code e = cc
object-found (Some attributes) checks code e = (attributes, refl, e)

-- likewise the checks of a key
key-found : (found : Option (List Item)) (checks : List Item → Option RvError)
    → option_map_or checks
    (option_and_then (λ items. cond (is_key items) (Some items) None) found)
    (Some rv_error.KeyHandleInvalid) ≡ None
    → (attributes : List Item) × (found ≡ Some attributes) × (checks attributes ≡ None)
key-found None checks e = cc
key-found (Some attributes) checks e = cases (is_key attributes) e
  where
    cases : (key : Bool)
        → option_map_or checks (cond key (Some attributes) None) (Some rv_error.KeyHandleInvalid)
        ≡ None
        → (found : List Item) × (Some attributes ≡ Some found) × (checks found ≡ None)
    cases true e = (attributes, refl, e)
    cases false e = cc

-- ---- counts

module _ (limits : Ranges) where
  login-free : (h : History) (c : Call) → call_error limits h c ≡ None
      → logs_user_in (Some c) ≡ true → user_logins h < limits.logins
  login-free h (call.Login session number pin) p one =
      let known = last-passes (known_login_error limits h (user_of number) pin)
      (later-passes (session_error h session) _ p) in
      let checks : user_login_error limits h user.User pin ≡ None =
      subst (λ n. known_login_error limits h (user_of n) pin ≡ None)
      (eqb-true number 1 one) known in
      count-free limits.logins (user_logins h) rv_error.DeviceMemory
      (last-passes (logins_error limits user.User h)
      (later-passes (pin_error user.User h pin) _
      (later-passes (error_if (is_none (present_pin user.User h)) rv_error.UserPinNotInitialized) _
      (later-passes (logged_in_error user.User (login h)) _ checks))))
  login-free h other p one = cc

  opening-free : (h : History) (c : Call) → call_error limits h c ≡ None → opens (Some c) ≡ true
      → openings h < limits.openings
  opening-free h (call.OpenSession flags) p t =
      count-free limits.openings (openings h) rv_error.DeviceMemory
      (last-passes (error_if (nat_le limits.openings (openings h)) rv_error.DeviceMemory)
      (later-passes
      (error_if (nat_le limits.sessions (length (open_sessions h))) rv_error.SessionCount) _
      (later-passes
      (error_if (not (has_rw_flag flags) && is_user user.So (login h))
      rv_error.SessionReadWriteSoExists) _
      (later-passes (error_if (not (bit_and flags 6 == flags)) rv_error.ArgumentsBad) _
      (later-passes (error_if (bit_and flags 4 == 0) rv_error.SessionParallelNotSupported) _
      (later-passes (error_if (not (is_initialized h)) rv_error.TokenNotRecognized) _ p))))))
  opening-free h other p t = cc

  -- a creation that passes its checks is within the limit
  pub creation-free : (h : History) (c : Call) → call_error limits h c ≡ None
      → creates (Some c) ≡ true → creations h < limits.creations
  creation-free h (call.CreateObject session template) p t =
      count-free limits.creations (creations h) rv_error.DeviceMemory
      (last-passes (creations_error limits h)
      (later-passes (placement_error h session (placement_of (created_items template.items))) _
      (later-passes (created_error template.items) _
      (later-passes (session_error h session) _ p))))
  creation-free h (call.GenerateKey session mechanism template random) p t =
      count-free limits.creations (creations h) rv_error.DeviceMemory
      (last-passes (creations_error limits h)
      (later-passes
      (placement_error h session (placement_of (generated_items template.items random))) _
      (later-passes (generated_error template.items random) _
      (later-passes (parameter_error mechanism) _
      (later-passes (error_if (not (is_key_generator mechanism.kind)) rv_error.MechanismInvalid) _
      (later-passes (session_error h session) _ p))))))
  creation-free h (call.CopyObject session object template) p t =
      let found = object-found (attributes_named h object) _ rv_error.ObjectHandleInvalid
      (last-passes (object_error h object _) (later-passes (session_error h session) _ p)) in
      count-free limits.creations (creations h) rv_error.DeviceMemory
      (last-passes (creations_error limits h)
      (later-passes (placement_error h session (placement_of (with_given template.items found.0))) _
      (later-passes (copied_error (class_of found.0) (protections_of found.0) template.items) _
      (later-passes (prohibited_error attribute.Copyable found.0) _ found.2))))
  creation-free h other p t = cc

counts-below : (more : Bool) (n most bound : ℕ) → most < bound → (more ≡ true → n < most)
    → n < bound → cond more (suc n) n < bound
counts-below true n most bound m free below = let f = free refl in omega arith
counts-below false n most bound m free below = below

module _ (limits : Ranges)
    (in_range : AreInRange limits.sessions limits.openings limits.creations limits.logins) where
  pub user_logins-bound : (h : History) → IsSound (start_of h) → IsLegal limits h
      → user_logins h < 2 ^ 31
  user_logins-bound (start b) sound legal = sound.logins
  user_logins-bound (e ◁ h) sound legal =
      counts-below (logs_user_in (done e)) (user_logins h) limits.logins (2 ^ 31) in_range.7
      (by-done limits e h legal (λ d. logs_user_in d ≡ true → user_logins h < limits.logins)
      (λ t. cc) (login-free limits h))
      (user_logins-bound h sound legal.1)

  pub openings-bound : (h : History) → IsSound (start_of h) → IsLegal limits h → openings h < 2 ^ 32
  openings-bound (start b) sound legal = sound.openings
  openings-bound (e ◁ h) sound legal =
      counts-below (opens (done e)) (openings h) limits.openings (2 ^ 32) in_range.3
      (by-done limits e h legal (λ d. opens d ≡ true → openings h < limits.openings)
      (λ t. cc) (opening-free limits h))
      (openings-bound h sound legal.1)

  pub creations-bound : (h : History) → IsSound (start_of h) → IsLegal limits h
      → creations h < 2 ^ 32
  creations-bound (start b) sound legal = sound.creations
  creations-bound (e ◁ h) sound legal =
      counts-below (creates (done e)) (creations h) limits.creations (2 ^ 32) in_range.5
      (by-done limits e h legal (λ d. creates d ≡ true → creations h < limits.creations)
      (λ t. cc) (creation-free limits h))
      (creations-bound h sound legal.1)

-- ---- a wrong PIN

-- a check that fails with another code isn't the one that found the PIN wrong
no-wrong_pin : (test : Bool) (code : RvError) → (code ≡ rv_error.PinIncorrect → ⊥)
    → error_if test code ≡ Some rv_error.PinIncorrect → ⊥
no-wrong_pin false code other e = cc
no-wrong_pin true code other e = other (same_Some code rv_error.PinIncorrect e)

later-wrong : (first later : Option RvError) → (first ≡ Some rv_error.PinIncorrect → ⊥)
    → or_else first later ≡ Some rv_error.PinIncorrect
    → later ≡ Some rv_error.PinIncorrect
later-wrong None later other e = e
later-wrong (Some code) later other e = absurd (other e)

last-wrong : (last : Option RvError) → or_else last None ≡ Some rv_error.PinIncorrect
    → last ≡ Some rv_error.PinIncorrect
last-wrong None e = cc
last-wrong (Some code) e = e

-- the check of the lock comes first
lock-first : (locked : Bool) (later : Option RvError)
    → or_else (error_if locked rv_error.PinLocked) later ≡ Some rv_error.PinIncorrect
    → locked ≡ false
lock-first true later e = cc
lock-first false later e = refl

module _ (h : History) where
  session-other : (session : ℕ) → session_error h session ≡ Some rv_error.PinIncorrect → ⊥
  session-other session =
      no-wrong_pin (not (is_open h session)) rv_error.SessionHandleInvalid (λ e. cc)

  init_token-case : (initialized fits : Bool) (pin : Pin)
      → cond initialized (pin_error user.So h pin) (error_if fits rv_error.PinLenRange)
      ≡ Some rv_error.PinIncorrect
      → is_locked user.So h ≡ false
  init_token-case true fits pin e = lock-first (is_locked user.So h) _ e
  init_token-case false fits pin e = absurd (no-wrong_pin fits rv_error.PinLenRange (λ e. cc) e)

  unlocked-init_token : (pin : Pin) → init_token_error h pin ≡ Some rv_error.PinIncorrect
      → is_locked user.So h ≡ false
  unlocked-init_token pin e =
      init_token-case (is_initialized h) (not (fits_a_pin pin)) pin
      (last-wrong _
      (later-wrong (error_if (not (length (open_sessions h) == 0)) rv_error.SessionExists) _
      (no-wrong_pin (not (length (open_sessions h) == 0)) rv_error.SessionExists (λ e. cc)) e))

  no-wrong_init_pin : (session : ℕ) (pin : Pin)
      → init_pin_error h session pin ≡ Some rv_error.PinIncorrect → ⊥
  no-wrong_init_pin session pin e =
      no-wrong_pin (not (fits_a_pin pin)) rv_error.PinLenRange (λ e. cc)
      (last-wrong _
      (later-wrong (error_if (not (is_so_state (state_of h session))) rv_error.UserNotLoggedIn) _
      (no-wrong_pin (not (is_so_state (state_of h session))) rv_error.UserNotLoggedIn (λ e. cc))
      (later-wrong (session_error h session) _ (session-other session) e)))

  unlocked-set_pin : (session : ℕ) (old new : Pin)
      → set_pin_error h session old new ≡ Some rv_error.PinIncorrect
      → is_locked (pin_owner (state_of h session)) h ≡ false
  unlocked-set_pin session old new e =
      let owner = pin_owner (state_of h session) in
      lock-first (is_locked owner h) _
      (later-wrong (error_if (is_none (present_pin owner h)) rv_error.UserPinNotInitialized) _
      (no-wrong_pin (is_none (present_pin owner h)) rv_error.UserPinNotInitialized (λ e. cc))
      (later-wrong (error_if (not (is_read_write h session)) rv_error.SessionReadOnly) _
      (no-wrong_pin (not (is_read_write h session)) rv_error.SessionReadOnly (λ e. cc))
      (later-wrong (session_error h session) _ (session-other session) e)))

  logged_in-other : (u : UserType) (l : Option UserType)
      → logged_in_error u l ≡ Some rv_error.PinIncorrect → ⊥
  logged_in-other u None e = cc
  logged_in-other user.So (Some user.So) e = cc
  logged_in-other user.So (Some user.User) e = cc
  logged_in-other user.User (Some user.So) e = cc
  logged_in-other user.User (Some user.User) e = cc

  read_only-other : (u : UserType) → read_only_error u h ≡ Some rv_error.PinIncorrect → ⊥
  read_only-other user.So e = no-wrong_pin _ rv_error.SessionReadOnlyExists (λ e. cc) e
  read_only-other user.User e = cc

  logins-other : (limits : Ranges) (u : UserType)
      → logins_error limits u h ≡ Some rv_error.PinIncorrect → ⊥
  logins-other limits user.So e = cc
  logins-other limits user.User e = no-wrong_pin _ rv_error.DeviceMemory (λ e. cc) e

  -- the check of the PIN, and then one that never finds a PIN wrong
  pin_error-first : (u : UserType) (pin : Pin) (last : Option RvError)
      → (last ≡ Some rv_error.PinIncorrect → ⊥)
      → or_else (pin_error u h pin) (or_else last None) ≡ Some rv_error.PinIncorrect
      → is_locked u h ≡ false
  pin_error-first u pin last other e = cases (is_locked u h) e
    where
      cases : (locked : Bool)
          → or_else (first_of (error_if locked rv_error.PinLocked
          ∷ error_if (not (is_pin (present_pin u h) pin)) rv_error.PinIncorrect ∷ []))
          (or_else last None)
          ≡ Some rv_error.PinIncorrect → locked ≡ false
      cases true e = cc
      cases false e = refl

  unlocked-login : (limits : Ranges) (u : UserType) (pin : Pin)
      → user_login_error limits h u pin ≡ Some rv_error.PinIncorrect → is_locked u h ≡ false
  unlocked-login limits u pin e =
      pin_error-first u pin (logins_error limits u h) (logins-other limits u)
      (later-wrong (error_if (is_none (present_pin u h)) rv_error.UserPinNotInitialized) _
      (no-wrong_pin (is_none (present_pin u h)) rv_error.UserPinNotInitialized (λ e. cc))
      (later-wrong (read_only_error u h) _ (read_only-other u)
      (later-wrong (logged_in_error u (login h)) _ (logged_in-other u (login h)) e)))

  unlocked-known : (limits : Ranges) (found : Option UserType) (u : UserType) (pin : Pin)
      → known_login_error limits h found pin ≡ Some rv_error.PinIncorrect
      → found ≡ Some u → is_locked u h ≡ false
  unlocked-known limits None u pin e same = cc
  unlocked-known limits (Some other) u pin e same =
      subst (λ u. is_locked u h ≡ false) (same_Some other u same)
      (unlocked-login limits other pin e)

-- a PIN is found wrong only of a user who isn't locked
pub unlocked : (limits : Ranges) (h : History) (c : Call) (u : UserType)
    → call_error limits h c ≡ Some rv_error.PinIncorrect
    → about h (Some c) ≡ Some u → is_locked u h ≡ false
unlocked limits h (call.InitToken pin) u e same =
    subst (λ u. is_locked u h ≡ false) (same_Some user.So u same) (unlocked-init_token h pin e)
unlocked limits h (call.InitPin session pin) u e same = absurd (no-wrong_init_pin h session pin e)
unlocked limits h (call.SetPin session old new) u e same =
    subst (λ u. is_locked u h ≡ false) (same_Some (pin_owner (state_of h session)) u same)
    (unlocked-set_pin h session old new e)
unlocked limits h (call.Login session number pin) u e same =
    unlocked-known h limits (user_of number) u pin
    (last-wrong (known_login_error limits h (user_of number) pin)
    (later-wrong (session_error h session) _ (session-other h session) e)) same
unlocked limits h other u e same = cc

-- ---- wrong tries

wrong_code : (code : RvError) → is_wrong_pin (rv.Error code) ≡ true → code ≡ rv_error.PinIncorrect
wrong_code rv_error.PinIncorrect w = refl
wrong_code other w = cc

queries-other : (hidden missing longer : Bool)
    → is_wrong_pin (cond hidden (rv.Error rv_error.AttributeSensitive)
    (cond missing (rv.Error rv_error.AttributeTypeInvalid)
    (cond longer (rv.Error rv_error.BufferTooSmall) rv.Ok)))
    ≡ false
queries-other true missing longer = refl
queries-other false true longer = refl
queries-other false false true = refl
queries-other false false false = refl

bytes-other : (room : Option ℕ) (bytes : List ℕ) → is_wrong_pin (bytes_reply room bytes).rv ≡ false
bytes-other None bytes = refl
bytes-other (Some room) bytes = cases (nat_lt room (length bytes))
  where
    cases : (longer : Bool)
        → is_wrong_pin (cond longer (too_small (length bytes)) (ok (body.Bytes bytes))).rv ≡ false
    cases true = refl
    cases false = refl

allowed-other : (limits : Ranges) (h : History) (c : Call)
    → is_wrong_pin (allowed_reply limits h c).rv ≡ false
allowed-other limits h (call.GetAttributeValue session object queries) =
    queries-other (list_any (asks_hidden (attributes_or_empty h object)) queries)
    (list_any (is_missing (attributes_or_empty h object)) queries)
    (list_any (lacks_room (attributes_or_empty h object)) queries)
allowed-other limits h (call.Digest session bytes room) =
    bytes-other room (tag_in kind.Digest h session bytes)
allowed-other limits h (call.DigestFinal session room) =
    bytes-other room (tag_in kind.Digest h session (message_in kind.Digest h session))
allowed-other limits h (call.Sign session bytes room) =
    bytes-other room (tag_in kind.Sign h session bytes)
allowed-other limits h (call.SignFinal session room) =
    bytes-other room (tag_in kind.Sign h session (message_in kind.Sign h session))
allowed-other limits h other = refl

pub wrong_answer : (limits : Ranges) (h : History) (c : Call)
    → is_wrong_pin (answer limits h c).rv ≡ true
    → call_error limits h c ≡ Some rv_error.PinIncorrect
wrong_answer limits h c w = cases (call_error limits h c) w
  where
    cases : (error : Option RvError)
        → is_wrong_pin (unless error (allowed_reply limits h c)).rv ≡ true
        → error ≡ Some rv_error.PinIncorrect
    cases None w = absurd (false≢true (sym (allowed-other limits h c) ∙ w))
    cases (Some code) w = ap Some (wrong_code code w)

wrong_try-about : (wrong : Bool) (u : UserType) (h : History) (c : Call)
    → is_about u h (cond wrong (Some c) None) ≡ true
    → (wrong ≡ true) × (is_about u h (Some c) ≡ true)
wrong_try-about true u h c a = (refl, a)
wrong_try-about false u h c a = cc

pub is_user-some : (u : UserType) (o : Option UserType) → is_user u o ≡ true → o ≡ Some u
is_user-some u None e = cc
is_user-some user.So (Some user.So) e = refl
is_user-some user.So (Some user.User) e = cc
is_user-some user.User (Some user.So) e = cc
is_user-some user.User (Some user.User) e = refl

tries-below : (reset wrong : Bool) (n : ℕ) → n ≤ 3 → (wrong ≡ true → n == 3 ≡ false)
    → cond reset 0 (cond wrong (suc n) n) ≤ 3
tries-below true wrong n below free = omega arith
tries-below false true n below free = let fewer : n ≢ 3 = eqb-false n 3 (free refl) in omega arith
tries-below false false n below free = below

base_tries-bound : (u : UserType) (b : Base) → IsSound b → base_tries u b ≤ 3
base_tries-bound user.So b sound = sound.so_tries
base_tries-bound user.User b sound = sound.user_tries

-- a wrong try is one of a user who isn't locked
pub wrong_try-unlocked : (limits : Ranges) (e : Entry) (h : History) → IsLegal limits (e ◁ h)
    → (u : UserType) → is_about u h (wrong_try e) ≡ true → is_locked u h ≡ false
wrong_try-unlocked limits e h legal u w =
    let tried = wrong_try-about (is_wrong_pin e.reply.rv) u h e.call w in
    unlocked limits h e.call u
    (wrong_answer limits h e.call
    (subst (λ (reply : Reply). is_wrong_pin reply.rv ≡ true) legal.0 tried.0))
    (is_user-some u (about h (Some e.call)) tried.1)

pub tries-bound : (limits : Ranges) (h : History) → IsSound (start_of h) → IsLegal limits h
    → (u : UserType) → tries u h ≤ 3
tries-bound limits (start b) sound legal u = base_tries-bound u b sound
tries-bound limits (e ◁ h) sound legal u =
    tries-below (resets u h (done e)) (is_about u h (wrong_try e)) (tries u h)
    (tries-bound limits h sound legal.1 u)
    (wrong_try-unlocked limits e h legal u)

-- ---- operations of sessions

-- a session stays open where an entry leaves or starts something in it that a closing would end
pub stays-open : (d : Option Call) (h : History) (s : ℕ) (started ended active : Bool)
    → (closes d s ≡ true → (started ≡ false) × (ended ≡ true))
    → (started ≡ true → is_open h s ≡ true) → (active ≡ true → is_open h s ≡ true)
    → cond started true (cond ended false active) ≡ true
    → cond (opens d && s == suc (openings h)) true (cond (closes d s) false (is_open h s)) ≡ true
stays-open d h s started ended active closing now before e =
    cases (opens d) (s == suc (openings h)) (closes d s) started ended active closing now before e
  where
    was-open : (started ended active : Bool) → (started ≡ true → is_open h s ≡ true)
        → (active ≡ true → is_open h s ≡ true) → cond started true (cond ended false active) ≡ true
        → is_open h s ≡ true
    was-open true ended active now before e = now refl
    was-open false true active now before e = cc
    was-open false false active now before e = before e

    not-ended : (started ended active : Bool) → started ≡ false → ended ≡ true
        → cond started true (cond ended false active) ≡ true → ⊥
    not-ended true ended active f t e = cc
    not-ended false true active f t e = cc
    not-ended false false active f t e = cc

    cases : (opened next closed started ended active : Bool)
        → (closed ≡ true → (started ≡ false) × (ended ≡ true))
        → (started ≡ true → is_open h s ≡ true) → (active ≡ true → is_open h s ≡ true)
        → cond started true (cond ended false active) ≡ true
        → cond (opened && next) true (cond closed false (is_open h s)) ≡ true
    cases true true closed started ended active closing now before e = refl
    cases true false true started ended active closing now before e =
        absurd (not-ended started ended active (closing refl).0 (closing refl).1 e)
    cases true false false started ended active closing now before e =
        was-open started ended active now before e
    cases false next true started ended active closing now before e =
        absurd (not-ended started ended active (closing refl).0 (closing refl).1 e)
    cases false next false started ended active closing now before e =
        was-open started ended active now before e

closing-search : (d : Option Call) (s : ℕ) → closes d s ≡ true
    → (starts_search d s ≡ false) × (ends_search d s ≡ true)
closing-search (Some (call.CloseSession session)) s e = (refl, e)
closing-search (Some call.CloseAllSessions) s e = (refl, refl)
closing-search other s e = cc

searched-open : (limits : Ranges) (h : History) (s : ℕ) (c : Call) → call_error limits h c ≡ None
    → starts_search (Some c) s ≡ true → is_open h s ≡ true
searched-open limits h s (call.FindObjectsInit session template) p same =
    subst (λ k. is_open h k ≡ true) (eqb-true session s same)
    (session-open h session (or_else-none (session_error h session) _ p).0)
searched-open limits h s other p same = cc

-- a session with an active search is open
pub is_searching-open : (limits : Ranges) (h : History) → IsLegal limits h → (s : ℕ)
    → is_searching h s ≡ true → is_open h s ≡ true
is_searching-open limits (start b) legal s active = cc
is_searching-open limits (e ◁ h) legal s active =
    stays-open (done e) h s (starts_search (done e) s) (ends_search (done e) s) (is_searching h s)
    (closing-search (done e) s)
    (by-done limits e h legal (λ d. starts_search d s ≡ true → is_open h s ≡ true) (λ t. cc)
    (searched-open limits h s))
    (is_searching-open limits h legal.1 s) active

-- the next session has no search
pub is_searching-next : (limits : Ranges) (h : History) → IsLegal limits h
    → is_searching h (suc (openings h)) ≡ false
is_searching-next limits h legal =
    false_from_ne_true (is_searching h (suc (openings h)))
    (λ active.
    let found = is_searching-open limits h legal (suc (openings h)) active in
    let within = is_open-within h (suc (openings h)) found in
    omega arith)

-- ---- what an entry leaves of an object

unless-ends : (P : List Item → Type 0) (ends : Bool) (a b : List Item) → P a
    → cond ends None (Some a) ≡ Some b → P b
unless-ends P true a b same e = cc
unless-ends P false a b same e = subst P (same_Some a b e) same

where-named : (P : List Item → Type 0) (named : Bool) (changed a b : List Item)
    → (named ≡ true → P changed) → P a → Some (cond named changed a) ≡ Some b → P b
where-named P true changed a b then same e = subst P (same_Some changed b e) (then refl)
where-named P false changed a b then same e = subst P (same_Some a b e) same

pub not-created : (created same : Bool) (fresh later : Option (List Item)) (b : List Item)
    → same ≡ false → cond (created && same) fresh later ≡ Some b → later ≡ Some b
not-created true true fresh later b n e = cc
not-created true false fresh later b n e = e
not-created false same fresh later b n e = e

-- it is as it was, or changed by a template that passes the checks of the object that it names, or
-- in another state, to which the key that is named may be taken
module _ (limits : Ranges) (h : History) (n : ℕ) (a : List Item) (P : List Item → Type 0)
    (same : P a)
    (changed : (object : ℕ) (found template : List Item) → attributes_named h object ≡ Some found
    → names_with (view_of h) a object n ≡ true → is_set found attribute.Modifiable ≡ true
    → changed_error (class_of found) (protections_of found) template ≡ None
    → P (with_given template a))
    (moved : (key : ℕ) (found : List Item) (s : KeyState) → attributes_named h key ≡ Some found
    → names_with (view_of h) a key n ≡ true → transition_error (state_in found) (Some s) ≡ None
    → P (with_state s a))
  where
    state-keeps : (key : ℕ) (found : List Item) → attributes_named h key ≡ Some found
        → names_with (view_of h) a key n ≡ true → (s : Option KeyState)
        → transition_error (state_in found) s ≡ None → P (in_state s a)
    state-keeps key found is named None fine = same
    state-keeps key found is named (Some s) fine = moved key found s is named fine

    call-keeps : (c : Call) → call_error limits h c ≡ None → (creator : ℕ) (b : List Item)
        → object_after (Some c) (view_of h) n creator a ≡ Some b → P b
    call-keeps (call.DestroyObject session object) p creator b e =
        unless-ends P _ a b same e
    call-keeps (call.SetAttributeValue session object template) p creator b e =
        let found = object-found (attributes_named h object) _ rv_error.ObjectHandleInvalid
        (last-passes (object_error h object _) (later-passes (session_error h session) _ p)) in
        let may = or_else-none (prohibited_error attribute.Modifiable found.0) _
        (later-passes (read_only_session_error h session (placement_of found.0)) _ found.2) in
        let modifiable = not-false (is_set found.0 attribute.Modifiable)
        (error_if-none _ rv_error.ActionProhibited may.0) in
        let passes = last-passes
        (changed_error (class_of found.0) (protections_of found.0) template.items) may.1 in
        where-named P (names_with (view_of h) a object n) (with_given template.items a) a b
        (λ named. changed object found.0 template.items found.1 named modifiable passes) same e
    call-keeps (call.SetKeyState session key number) p creator b e =
        let found = key-found (attributes_named h key) (state_change_error h session number)
        (last-passes (key_error h key _) (later-passes (session_error h session) _ p)) in
        let passes = last-passes (transition_error (state_in found.0) (state_of_number number))
        (later-passes (read_only_session_error h session (placement_of found.0)) _ found.2) in
        where-named P (names_with (view_of h) a key n) (in_state (state_of_number number) a) a b
        (λ named. state-keeps key found.0 found.1 named (state_of_number number) passes) same e
    call-keeps (call.InitToken pin) p creator b e = cc
    call-keeps (call.CloseSession session) p creator b e =
        unless-ends P _ a b same e
    call-keeps call.CloseAllSessions p creator b e =
        unless-ends P _ a b same e
    call-keeps (call.Logout session) p creator b e =
        unless-ends P _ a b same e
    call-keeps other_call p creator b e = unless-ends P false a b same e

    pub object_moves : (e : Entry) → IsSound (start_of h) → IsLegal limits (e ◁ h)
        → (b : List Item) → object_at h n ≡ Some a → object_at (e ◁ h) n ≡ Some b → P b
    object_moves e sound legal b was now =
        let within = object_at-within h sound n a was in
        let older = ne_eqb n (suc (creations h)) (λ same. omega arith) in
        let old = not-created (creates (done e)) (n == suc (creations h)) _ _ b older now in
        by-done limits e h legal
        (λ d. object_after d (view_of h) n (session_of h n) a ≡ Some b → P b)
        (unless-ends P false a b same) (λ c p. call-keeps c p (session_of h n) b)
        (subst
        (λ o. option_and_then (object_after (done e) (view_of h) n (session_of h n)) o ≡ Some b)
        was old)

-- the same of what stays in any other state, and in an object that may not be changed
module _ (limits : Ranges) (h : History) (n : ℕ) (a : List Item) (P : List Item → Type 0)
    (same : P a)
    (changed : (object : ℕ) (found template : List Item) → attributes_named h object ≡ Some found
    → names_with (view_of h) a object n ≡ true
    → changed_error (class_of found) (protections_of found) template ≡ None
    → P (with_given template a))
    (other : (s : KeyState) → P (with_state s a))
  where
    pub object_stays : (e : Entry) → IsSound (start_of h) → IsLegal limits (e ◁ h)
        → (b : List Item) → object_at h n ≡ Some a → object_at (e ◁ h) n ≡ Some b → P b
    object_stays =
        object_moves limits h n a P same
        (λ object found template is named modifiable. changed object found template is named)
        (λ key found s is named fine. other s)

-- ---- an object keeps CKA_TOKEN and CKA_PRIVATE

pub token_stays : (limits : Ranges) (e : Entry) (h : History) → IsSound (start_of h)
    → IsLegal limits (e ◁ h) → (n : ℕ) (a b : List Item)
    → object_at h n ≡ Some a → object_at (e ◁ h) n ≡ Some b
    → is_set b attribute.Token ≡ is_set a attribute.Token
token_stays limits e h sound legal n a b =
    object_stays limits h n a (λ b. is_set b attribute.Token ≡ is_set a attribute.Token) refl
    (λ object found template is named. token-kept (class_of found)
    (protections_of found) template a)
    (λ s. token-in_state s a) e sound legal b

pub private_stays : (limits : Ranges) (e : Entry) (h : History) → IsSound (start_of h)
    → IsLegal limits (e ◁ h) → (n : ℕ) (a b : List Item)
    → object_at h n ≡ Some a → object_at (e ◁ h) n ≡ Some b
    → is_set b attribute.Private ≡ is_set a attribute.Private
private_stays limits e h sound legal n a b =
    object_stays limits h n a (λ b. is_set b attribute.Private ≡ is_set a attribute.Private) refl
    (λ object found template is named.
    private-kept (class_of found) (protections_of found) template a)
    (λ s. private-in_state s a) e sound legal b
