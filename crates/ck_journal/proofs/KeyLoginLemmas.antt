-- The login while an operation with a private key is active
use Rattle.std.proofs.Common.{◌≡◌, ℕ, ◌<◌, ◌≤◌, Bool, true, false, cond, ◌||◌}
use Rattle.std.proofs.Common.{List, [], ◌∷◌, Option, Some, None, refl, sym, ap, ◌∙◌, arith}
use Rattle.std.proofs.Common.{◌⊎◌, inl, inr}
use Rattle.std.specs.Prelude.{◌==◌, nat_le, option_and_then}
use Rattle.std.proofs.lemmas.Bool.{false≢true, leb-true, leb-false, cases_Bool, and_parts}
use Rattle.std.proofs.lemmas.Option.{same_Some}
use Rattle.ck_objects.specs.Records.{is_set}
use Rattle.ck_types.specs.TokenLimits.{Ranges}
use Rattle.ck_types.specs.Users.{user_of}
use Rattle.ck_objects.specs.declared.attributes.Attribute.TheVariants as attribute
use Rattle.ck_objects.specs.declared.items.Item.{Item}
use Rattle.ck_types.specs.declared.pins.Pin.{Pin}
use Rattle.ck_types.specs.declared.users.UserType.{UserType}
use Rattle.ck_types.specs.declared.users.UserType.TheVariants as user
use Rattle.ck_types.proofs.CheckLemmas.{or_else-none}
use Rattle.ck_journal.specs.declared.calls.Call.{Call}
use Rattle.ck_journal.specs.declared.calls.Call.TheVariants as call
use Rattle.ck_journal.specs.declared.calls.Entry.{Entry}
use Rattle.ck_journal.specs.declared.operations.OperationKind.{OperationKind}
use Rattle.ck_journal.specs.Answers.{call_error, session_error, known_login_error}
use Rattle.ck_journal.specs.Answers.{logged_in_error}
use Rattle.ck_journal.specs.Events.{Event, answered, cut, after_events, AreSoundEvents}
use Rattle.ck_journal.specs.Histories.{History, start, ◌◁◌, done}
use Rattle.ck_journal.specs.Laws.{IsSoundHistory, IsPrivate}
use Rattle.ck_journal.specs.LawsOverEvents.{PrivateKeysServeTheUser}
use Rattle.ck_journal.specs.Objects.{creations, object_at, object_named}
use Rattle.ck_journal.specs.Objects.{is_visible_with, view_of, handle_with}
use Rattle.ck_journal.specs.Operations.{starts, ends, is_active, key_in, init_key}
use Rattle.ck_journal.specs.Operations.{cancels, finishes}
use Rattle.ck_journal.specs.Sessions.{is_open, login, login_after}
use Rattle.ck_journal.specs.Sessions.{logs_out, closes}
use Rattle.ck_journal.proofs.AttributeLaws.{private-stays}
use Rattle.ck_journal.proofs.EventLemmas.{events-before, sound-after}
use Rattle.ck_journal.proofs.LaterLemmas.{just_before, was_there, creations-next}
use Rattle.ck_journal.proofs.KeyUseLemmas.{is_active-open}
use Rattle.ck_journal.proofs.LegalLemmas.{by-done, last-passes, later-passes, private_stays}
use Rattle.ck_journal.proofs.LoginMoves.{login-open}
use Rattle.ck_journal.proofs.NameLemmas.{named-passes}
use Rattle.ck_journal.proofs.ObjectMoves.{object_at-within}
use Rattle.ck_journal.proofs.SessionMoves.{some-open}
use Rattle.ck_journal.proofs.VisibilityLemmas.{visible-login, named-login}

-- ---- the login stays

-- nobody logs in beside somebody
no-login : (limits : Ranges) (h : History) (found : Option UserType) (pin : Pin) (who : UserType)
    → login h ≡ Some who → known_login_error limits h found pin ≡ None → ⊥
no-login limits h None pin who in_now e = cc
no-login limits h (Some u) pin who in_now e =
    let first = (or_else-none (logged_in_error u (login h)) _ e).0 in
    let refused : logged_in_error u (Some who) ≡ None =
    ap (logged_in_error u) (sym in_now) ∙ first in
    cc

call-keeps-login : (limits : Ranges) (h : History) (who : UserType) → login h ≡ Some who
    → (c : Call) → call_error limits h c ≡ None → logs_out (Some c) ≡ false
    → login_after (Some c) (login h) ≡ login h
call-keeps-login limits h who in_now (call.Login session number pin) p t =
    absurd (no-login limits h (user_of number) pin who in_now
    (last-passes (known_login_error limits h (user_of number) pin)
    (later-passes (session_error h session) _ p)))
call-keeps-login limits h who in_now (call.Logout session) p t = cc
call-keeps-login limits h who in_now other p t = refl

login-kept : (limits : Ranges) (e : Entry) (h : History) → IsSoundHistory limits (e ◁ h)
    → (s : ℕ) (who : UserType) → login h ≡ Some who → logs_out (done e) ≡ false
    → is_open (e ◁ h) s ≡ true → login (e ◁ h) ≡ Some who
login-kept limits e h good s who in_now stays is_so =
    login-open e h (done e) refl (some-open (e ◁ h) s is_so)
    ∙ by-done limits e h good.legal
    (λ d. logs_out d ≡ false → login_after d (login h) ≡ login h) (λ t. refl)
    (call-keeps-login limits h who in_now) stays
    ∙ in_now

-- ---- an object that was public at all its fronts

abbrev IsPublic : History → ℕ → Type 0
IsPublic h n = (a : List Item) → object_at h n ≡ Some a → is_set a attribute.Private ≡ false

abbrev WasPublic : History → ℕ → Type 0
WasPublic (start b) n = IsPublic (start b) n
WasPublic (e ◁ h) n = IsPublic (e ◁ h) n × WasPublic h n

WasPublic-now : (h : History) (n : ℕ) → WasPublic h n → IsPublic h n
WasPublic-now (start b) n public = public
WasPublic-now (e ◁ h) n public = public.0

-- an object that there is no number for yet was never private
not_yet-public : (limits : Ranges) (h : History) → IsSoundHistory limits h → (n : ℕ)
    → creations h < n → WasPublic h n
not_yet-public limits (start b) good n above = λ a is.
    let within = object_at-within (start b) good.sound n a is in absurd (omega (arith, within.1))
not_yet-public limits (e ◁ h) good n above =
    let rises = creations-next e h in (
      (λ a is. let within = object_at-within (e ◁ h) good.sound n a is in
          absurd (omega (arith, within.1))),
      not_yet-public limits h (just_before limits e h good) n (omega arith),
    )

public-back : (limits : Ranges) (h : History) → IsSoundHistory limits h → (n : ℕ) (a : List Item)
    → object_at h n ≡ Some a → is_set a attribute.Private ≡ false → WasPublic h n
public-back limits (start b) good n a is public = λ other there.
    ap (λ items. is_set items attribute.Private) (same_Some other a (sym there ∙ is)) ∙ public
public-back limits (e ◁ h) good n a is public = (
  (λ other there.
      ap (λ items. is_set items attribute.Private) (same_Some other a (sym there ∙ is)) ∙ public),
  cases (nat_le n (creations h)) refl (public-back limits h (just_before limits e h good) n),
)
  where
    cases : (old : Bool) → nat_le n (creations h) ≡ old
        → ((b : List Item) → object_at h n ≡ Some b → is_set b attribute.Private ≡ false
        → WasPublic h n)
        → WasPublic h n
    cases true t before =
        let there = was_there e h n a (leb-true n (creations h) t) is in
        before there.0 there.1
        (sym (private_stays limits e h good.sound good.legal n there.0 a there.1 is) ∙ public)
    cases false t before =
        not_yet-public limits h (just_before limits e h good) n (leb-false n (creations h) t)

-- one that was public stays so
public-stays : (limits : Ranges) (e : Entry) (h : History) → IsSoundHistory limits (e ◁ h)
    → (n : ℕ) → n ≤ creations h → WasPublic h n → WasPublic (e ◁ h) n
public-stays limits e h good n within public = (
  (λ a is. let there = was_there e h n a within is in
      private_stays limits e h good.sound good.legal n there.0 a there.1 is
      ∙ WasPublic-now h n public there.0 there.1),
  public,
)

-- ---- an active operation

-- its key is a number that was given, and the user is logged in or the key was never private
record KeyServes (h : History) (n : ℕ) : Type 0 where
  within : n ≤ creations h
  login : (login h ≡ Some user.User) ⊎ WasPublic h n

-- an operation starts with a key that is visible
start-serves : (limits : Ranges) (h : History) → IsSoundHistory limits h → (n : ℕ)
    → (handle : Option ℕ) → option_and_then (object_named h) handle ≡ Some n → KeyServes h n
start-serves limits h good n None named = cc
start-serves limits h good n (Some handle) named =
    let there = named-passes h handle n named in
    let within = object_at-within h good.sound n there.0 there.1 in
    let visible = (and_parts (is_visible_with (view_of h) there.0)
    (handle_with (view_of h) there.0 n == handle) there.2).0 in
    record {
      within = within.1;
      login = elim (cases_Bool (is_set there.0 attribute.Private)) [
        | inl private ↦ inl (visible-login h there.0 visible private)
        | inr public ↦ inr (public-back limits h good n there.0 there.1 public)
      ];
    }

-- it still serves after an entry that logs nobody out, where a session is open
still-serves : (limits : Ranges) (e : Entry) (h : History) → IsSoundHistory limits (e ◁ h)
    → (n s : ℕ) → logs_out (done e) ≡ false → is_open (e ◁ h) s ≡ true → KeyServes h n
    → KeyServes (e ◁ h) n
still-serves limits e h good n s stays is_so serves =
    let rises = creations-next e h in
    let below = serves.within in
    record {
      within = omega arith;
      login = elim serves.login [
        | inl in_now ↦ inl (login-kept limits e h good s user.User in_now stays is_so)
        | inr public ↦ inr (public-stays limits e h good n serves.within public)
      ];
    }

start-stays : (d : Option Call) (k : OperationKind) (s : ℕ) → starts d k s ≡ true
    → logs_out d ≡ false
start-stays (Some (call.Logout session)) k s t = cc
start-stays other k s t = refl

unended-stays : (logs closes cancels finishes : Bool)
    → (cond logs true closes || cancels || finishes) ≡ false → logs ≡ false
unended-stays true closes cancels finishes e = cc
unended-stays false closes cancels finishes e = refl

active-serves : (limits : Ranges) (k : OperationKind) (h : History) → IsSoundHistory limits h
    → (s n : ℕ) → is_active k h s ≡ true → key_in k h s ≡ Some n → KeyServes h n
active-serves limits k (start b) good s n active key = cc
active-serves limits k (e ◁ h) good s n active key =
    cases (starts (done e) k s) (ends k e s) refl refl
    (active-serves limits k h (just_before limits e h good) s n) active key
  where
    is_so : is_open (e ◁ h) s ≡ true
    is_so = is_active-open limits k (e ◁ h) good.legal s active

    cases : (started ended : Bool) → starts (done e) k s ≡ started → ends k e s ≡ ended
        → (is_active k h s ≡ true → key_in k h s ≡ Some n → KeyServes h n)
        → cond started true (cond ended false (is_active k h s)) ≡ true
        → cond started (option_and_then (object_named h) (init_key (done e))) (key_in k h s)
        ≡ Some n
        → KeyServes (e ◁ h) n
    cases true ended t f before active key =
        still-serves limits e h good n s (start-stays (done e) k s t) is_so
        (start-serves limits h (just_before limits e h good) n (init_key (done e)) key)
    cases false true t f before active key = cc
    cases false false t f before active key =
        still-serves limits e h good n s
        (unended-stays (logs_out (done e)) (closes (done e) s) (cancels (done e) k s)
        (finishes e.call k e.reply s) f) is_so (before active key)

-- at a front at which the key is private
private_keys-now : (limits : Ranges) (k : OperationKind) (h : History) → IsSoundHistory limits h
    → (s n : ℕ) → IsPrivate h n → is_active k h s ≡ true → key_in k h s ≡ Some n
    → login h ≡ Some user.User
private_keys-now limits k h good s n private active key =
    let serves = active-serves limits k h good s n active key in
    elim serves.login [
      | inl in_now ↦ in_now
      | inr public ↦ absurd (false≢true
          (sym (WasPublic-now h n public private.attributes private.present) ∙ private.private))
    ]

-- ---- after calls and cuts

-- an object that was private is private
private-later : (limits : Ranges) (h : History) (later : List Event)
    → AreSoundEvents limits h later → (n : ℕ) → IsPrivate h n → (a : List Item)
    → object_at (after_events h later) n ≡ Some a → IsPrivate (after_events h later) n
private-later limits h later sound n private a is = record {
  attributes = a;
  present = is;
  private =
      private-stays limits h later sound n private.attributes a private.present is
      ∙ private.private;
}

-- an operation starts with a private key only where the user is logged in
start-login : (limits : Ranges) (h : History) (later : List Event)
    → AreSoundEvents limits h later → (n : ℕ) → IsPrivate h n → (handle : Option ℕ)
    → option_and_then (object_named (after_events h later)) handle ≡ Some n
    → login (after_events h later) ≡ Some user.User
start-login limits h later sound n private None named = cc
start-login limits h later sound n private (Some handle) named =
    let there = named-passes (after_events h later) handle n named in
    named-login (after_events h later) handle n named
    (private-later limits h later sound n private there.0 there.1)

pub private-keys : PrivateKeysServeTheUser
private-keys limits h [] sound k s n private active key =
    private_keys-now limits k h sound.good s n private active key
private-keys limits h (answered e ∷ later) sound k s n private active key =
    cases (starts (done e) k s) (ends k e s) refl refl
    (private-keys limits h later before k s n private) active key
  where
    before : AreSoundEvents limits h later
    before = events-before limits h (answered e) later sound

    good : IsSoundHistory limits (e ◁ after_events h later)
    good = sound-after limits h (answered e ∷ later) sound

    is_so : is_open (e ◁ after_events h later) s ≡ true
    is_so = is_active-open limits k (e ◁ after_events h later) good.legal s active

    kept : login (after_events h later) ≡ Some user.User → logs_out (done e) ≡ false
        → login (e ◁ after_events h later) ≡ Some user.User
    kept in_now stays =
        login-kept limits e (after_events h later) good s user.User in_now stays is_so

    cases : (started ended : Bool) → starts (done e) k s ≡ started → ends k e s ≡ ended
        → (is_active k (after_events h later) s ≡ true
        → key_in k (after_events h later) s ≡ Some n
        → login (after_events h later) ≡ Some user.User)
        → cond started true (cond ended false (is_active k (after_events h later) s)) ≡ true
        → cond started (option_and_then (object_named (after_events h later)) (init_key (done e)))
        (key_in k (after_events h later) s) ≡ Some n
        → login (e ◁ after_events h later) ≡ Some user.User
    cases true ended t f in_before active key =
        kept (start-login limits h later before n private (init_key (done e)) key)
        (start-stays (done e) k s t)
    cases false true t f in_before active key = cc
    cases false false t f in_before active key =
        kept (in_before active key)
        (unended-stays (logs_out (done e)) (closes (done e) s) (cancels (done e) k s)
        (finishes e.call k e.reply s) f)
private-keys limits h (cut ∷ later) sound k s n private active key = cc
