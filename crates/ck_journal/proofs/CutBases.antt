-- The base that a history leaves where no session is open
use Rattle.std.proofs.Common.{◌≡◌, ℕ, ◌≤◌, Bool, true, false, cond, not, ◌||◌, List, [], ◌∷◌}
use Rattle.std.proofs.Common.{Option, Some, None, All, length, refl, sym, ap, ◌∙◌, subst}
use Rattle.std.specs.Prelude.{◌==◌, filter, option_map, option_and_then, is_none, is_some}
use Rattle.std.specs.List.{list_any}
use Rattle.std.specs.Option.{option_map_or}
use Rattle.std.proofs.Math.Path.{fun_ext}
use Rattle.std.proofs.lemmas.Bool.{eqb-true, false_from_ne_true, true≢false, not-false}
use Rattle.std.proofs.lemmas.Option.{same_Some}
use Rattle.ck_types.specs.Checks.{error_if}
use Rattle.ck_objects.specs.Records.{is_set}
use Rattle.ck_types.specs.TokenLimits.{Ranges}
use Rattle.ck_types.specs.Users.{same_user}
use Rattle.ck_objects.specs.declared.attributes.Attribute.TheVariants as attribute
use Rattle.ck_types.specs.declared.errors.RvError.TheVariants as rv_error
use Rattle.ck_objects.specs.declared.items.Item.{Item}
use Rattle.ck_types.specs.declared.pins.Pin.{Pin}
use Rattle.ck_types.specs.declared.users.UserType.{UserType}
use Rattle.ck_types.specs.declared.users.UserType.TheVariants as user
use Rattle.ck_types.proofs.CheckLemmas.{or_else-none, error_if-none}
use Rattle.ck_journal.specs.declared.bases.KeptObject.{KeptObject}
use Rattle.ck_journal.specs.declared.calls.Call.{Call}
use Rattle.ck_journal.specs.declared.calls.Call.TheVariants as call
use Rattle.ck_journal.specs.Answers.{session_error, call_error, IsLegal}
use Rattle.ck_journal.specs.Bases.{IsCreated, IsProtected, IsSound, base_tries, kept_attributes}
use Rattle.ck_journal.specs.Cuts.{kept_object, kept_objects, base_of}
use Rattle.ck_journal.specs.Histories.{History, start, ◌◁◌, start_of}
use Rattle.ck_journal.specs.Laws.{IsSoundHistory}
use Rattle.ck_journal.specs.Objects.{creations, object_at, session_of, is_session_object}
use Rattle.ck_journal.specs.Operations.{is_active}
use Rattle.ck_journal.specs.Pins.{is_about, is_initialized, initializes, pin_owner, present_pin}
use Rattle.ck_journal.specs.Pins.{so_pin, so_pin_after, tries}
use Rattle.ck_journal.specs.Searches.{is_searching}
use Rattle.ck_journal.specs.Sessions.{numbers, openings, is_open, open_sessions, is_read_write}
use Rattle.ck_journal.specs.Sessions.{state_of}
use Rattle.ck_journal.proofs.CutReadings.{Alike, AlikeActive}
use Rattle.ck_journal.proofs.LegalLemmas.{by-done, later-passes, tries-bound, openings-bound}
use Rattle.ck_journal.proofs.LegalLemmas.{creations-bound, user_logins-bound, is_searching-open}
use Rattle.ck_journal.proofs.LoginMoves.{login-none}
use Rattle.ck_journal.proofs.NumberTests.{same_number}
use Rattle.ck_journal.proofs.ObjectMoves.{object_at-within}
use Rattle.ck_journal.proofs.KeyUseLemmas.{is_active-open}
use Rattle.ck_journal.proofs.ProtectionLemmas.{object-protected}
use Rattle.ck_journal.proofs.Selections.{list_any-member, find-filter_map, find-only}
use Rattle.ck_journal.proofs.Selections.{AllPairs-filter_map, All-filter_map}
use Rattle.ck_journal.proofs.SessionObjectLemmas.{session_object-open}
use Rattle.ck_journal.proofs.SessionMoves.{is_open-within}

-- ---- the security officer has a PIN exactly where the token is initialized

initialized-so : (pin : Pin) (about_so : Bool) (before : Option Pin)
    → is_some (so_pin_after (Some (call.InitToken pin)) about_so before) ≡ true
initialized-so pin about_so None = refl
initialized-so pin about_so (Some other) = refl

set-so : (session : ℕ) (old new : Pin) (h : History) (owner : UserType)
    → is_none (present_pin owner h) ≡ false → is_some (so_pin h) ≡ is_initialized h
    → is_some (so_pin_after (Some (call.SetPin session old new)) (same_user user.So owner)
    (so_pin h))
    ≡ is_initialized h
set-so session old new h user.So present before = has-pin (so_pin h) present ∙ before
  where
    has-pin : (o : Option Pin) → is_none o ≡ false → true ≡ is_some o
    has-pin None e = absurd (true≢false e)
    has-pin (Some pin) e = refl
set-so session old new h user.User present before = before

so-after : (limits : Ranges) (h : History) → is_some (so_pin h) ≡ is_initialized h → (c : Call)
    → call_error limits h c ≡ None
    → is_some (so_pin_after (Some c) (is_about user.So h (Some c)) (so_pin h))
    ≡ initializes (Some c) || is_initialized h
so-after limits h before (call.InitToken pin) p = initialized-so pin true (so_pin h)
so-after limits h before (call.SetPin session old new) p =
    let owner = pin_owner (state_of h session) in
    set-so session old new h owner
    (error_if-none (is_none (present_pin owner h)) rv_error.UserPinNotInitialized
    (or_else-none (error_if (is_none (present_pin owner h)) rv_error.UserPinNotInitialized) _
    (later-passes (error_if (not (is_read_write h session)) rv_error.SessionReadOnly) _
    (later-passes (session_error h session) _ p))).0)
    before
so-after limits h before other p = before

pub so-initialized : (limits : Ranges) (h : History) → IsSound (start_of h) → IsLegal limits h
    → is_some (so_pin h) ≡ is_initialized h
so-initialized limits (start b) sound legal = sound.so_pin
so-initialized limits (e ◁ h) sound legal =
    let before = so-initialized limits h sound legal.1 in
    by-done limits e h legal
    (λ d. is_some (so_pin_after d (is_about user.So h d) (so_pin h))
    ≡ initializes d || is_initialized h)
    before (so-after limits h before)

-- ---- kept objects

row-object : (n : ℕ) (object : Option (List Item)) (kept : KeptObject)
    → option_map (kept_object n) object ≡ Some kept
    → (kept.number ≡ n) × (object ≡ Some kept.attributes)
row-object n None kept e = cc
row-object n (Some attributes) kept e = (
  sym (ap (λ (k : KeptObject). k.number) (same_Some (kept_object n attributes) kept e)),
  ap (λ (k : KeptObject). Some k.attributes) (same_Some (kept_object n attributes) kept e),
)

module _ (h : History) where
  abbrev row : ℕ → Option KeptObject
  row n = option_map (kept_object n) (object_at h n)

  all-kept : (P : KeptObject → Type 0)
      → ((n : ℕ) (attributes : List Item) → object_at h n ≡ Some attributes
      → P (kept_object n attributes))
      → All P (kept_objects h)
  all-kept P each =
      All-filter_map P row
      (λ n kept is. let object = row-object n (object_at h n) kept is in
      subst (λ k. P (record { number = k; attributes = kept.attributes })) (sym object.0)
      (each n kept.attributes object.1))
      (creations h)

  module _ (n : ℕ) where
    abbrev is-here : Option KeptObject → Bool
    is-here found = option_map_or (λ (kept : KeptObject). kept.number == n) found false

    only-here : (k : ℕ) (object : Option (List Item))
        → is-here (option_map (kept_object k) object) ≡ true → k ≡ n
    only-here k None t = cc
    only-here k (Some attributes) t = eqb-true k n t

    here-within : IsSound (start_of h) → (object : Option (List Item)) → object_at h n ≡ object
        → is-here (option_map (kept_object n) object) ≡ true → (1 ≤ n) × (n ≤ creations h)
    here-within sound None is t = cc
    here-within sound (Some attributes) is t = object_at-within h sound n attributes is

    found-here : (object : Option (List Item)) → object_at h n ≡ object
        → option_map (λ (kept : KeptObject). kept.attributes)
        (option_and_then row (cond (is-here (option_map (kept_object n) object)) (Some n) None))
        ≡ object
    found-here None is = refl
    found-here (Some attributes) is =
        rw (same_number n)
        (ap (λ o. option_map (λ (kept : KeptObject). kept.attributes)
        (option_map (kept_object n) o)) is)

    pub kept-object : IsSound (start_of h) → kept_attributes (base_of h) n ≡ object_at h n
    kept-object sound =
        ap (option_map (λ (kept : KeptObject). kept.attributes))
        (find-filter_map (λ (kept : KeptObject). kept.number == n) row (numbers (creations h))
        ∙ ap (option_and_then row)
        (find-only (λ k. is-here (row k)) n (creations h) (λ k. only-here k (object_at h k))
        (here-within sound (object_at h n) refl)))
        ∙ found-here (object_at h n) refl

-- ---- where no session is open

empty-none : (test : ℕ → Bool) (ks : List ℕ) → filter test ks ≡ [] → list_any test ks ≡ false
empty-none test [] e = refl
empty-none test (k ∷ ks) e = step (test k) e (empty-none test ks)
  where
    step : (t : Bool) → cond t (k ∷ filter test ks) (filter test ks) ≡ []
        → (filter test ks ≡ [] → list_any test ks ≡ false) → (t || list_any test ks) ≡ false
    step true e later = cc
    step false e later = later e

base_tries-same : (u : UserType) (h : History) → base_tries u (base_of h) ≡ tries u h
base_tries-same user.So h = refl
base_tries-same user.User h = refl

module _ (limits : Ranges) (h : History) (good : IsSoundHistory limits h)
    (none : open_sessions h ≡ []) where
  no-open : (s : ℕ) → is_open h s ≡ true → ⊥
  no-open s t =
      let within = is_open-within h s t in
      true≢false (sym (list_any-member (is_open h) s (openings h) within.0 within.1 t)
      ∙ empty-none (is_open h) (numbers (openings h)) none)

  pub closed : (test : ℕ → Bool) → ((s : ℕ) → test s ≡ true → is_open h s ≡ true) → (s : ℕ)
      → false ≡ test s
  closed test opens s = sym (false_from_ne_true (test s) (λ t. no-open s (opens s t)))

  pub token-object : (n : ℕ) (attributes : List Item) → object_at h n ≡ Some attributes
      → is_set attributes attribute.Token ≡ true
  token-object n attributes is =
      not-false (is_set attributes attribute.Token)
      (false_from_ne_true (is_session_object attributes)
      (λ t. no-open (session_of h n) (session_object-open limits h good n attributes is t)))

  pub base-alike : Alike h (start (base_of h))
  base-alike = record {
    initialized_too = refl;
    so = refl;
    user = refl;
    tried = λ u. base_tries-same u h;
    opened = refl;
    created = refl;
    logged_in = refl;
    who = sym (login-none h (ap (λ ss. length ss == 0) none));
    is_open_too = fun_ext (closed (is_open h) (λ s t. t));
    flags = λ s t. absurd (no-open s t);
    objects = fun_ext (λ n. kept-object h n good.sound);
    creator = λ n attributes is t.
        absurd (no-open (session_of h n) (session_object-open limits h good n attributes is t));
  }

  pub base-alike_active : AlikeActive h (start (base_of h))
  base-alike_active = record {
    searching = fun_ext (closed (is_searching h) (is_searching-open limits h good.legal));
    found = λ s t. absurd (no-open s (is_searching-open limits h good.legal s t));
    last = λ s t. absurd (no-open s (is_searching-open limits h good.legal s t));
    active = λ k. fun_ext (closed (is_active k h) (is_active-open limits k h good.legal));
    computation = λ k s t. absurd (no-open s (is_active-open limits k h good.legal s t));
    key = λ k s t. absurd (no-open s (is_active-open limits k h good.legal s t));
    pieces = λ k s t. absurd (no-open s (is_active-open limits k h good.legal s t));
  }

  pub base-sound : IsSound (base_of h)
  base-sound = record {
    so_pin = so-initialized limits h good.sound good.legal;
    so_tries = tries-bound limits h good.sound good.legal user.So;
    user_tries = tries-bound limits h good.sound good.legal user.User;
    openings = openings-bound limits good.in_range h good.sound good.legal;
    creations = creations-bound limits good.in_range h good.sound good.legal;
    logins = user_logins-bound limits good.in_range h good.sound good.legal;
    rising = AllPairs-filter_map (λ (kept : KeptObject). kept.number) (row h)
        (λ n kept is. (row-object n (object_at h n) kept is).0) (creations h);
    numbers =
        all-kept h (IsCreated (creations h))
        (λ n attributes is. object_at-within h good.sound n attributes is);
    token_objects =
        all-kept h (λ (kept : KeptObject). is_set kept.attributes attribute.Token ≡ true)
        token-object;
    protected = all-kept h (λ (kept : KeptObject). IsProtected kept.attributes)
        (object-protected limits good.in_range h good.sound good.legal);
  }
