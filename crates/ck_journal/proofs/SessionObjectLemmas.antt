-- The sessions of session objects are open
use Rattle.std.proofs.Common.{◌≡◌, ℕ, suc, Bool, true, false, cond, not, ◌&&◌, List, Option, Some}
use Rattle.std.proofs.Common.{None, refl, sym, ap, ◌∙◌}
use Rattle.std.specs.Prelude.{◌==◌, option_and_then}
use Rattle.std.proofs.lemmas.Bool.{false≢true}
use Rattle.ck_objects.specs.Records.{is_set}
use Rattle.ck_types.specs.TokenLimits.{Ranges}
use Rattle.ck_objects.specs.declared.attributes.Attribute.TheVariants as attribute
use Rattle.ck_objects.specs.declared.items.Item.{Item}
use Rattle.ck_journal.specs.declared.calls.Call.{Call}
use Rattle.ck_journal.specs.declared.calls.Call.TheVariants as call
use Rattle.ck_journal.specs.declared.views.View.{View}
use Rattle.ck_journal.specs.Answers.{call_error, session_error}
use Rattle.ck_journal.specs.Histories.{History, start, ◌◁◌, done}
use Rattle.ck_journal.specs.Laws.{SessionObjectsHaveOpenSessions}
use Rattle.ck_journal.specs.Objects.{creates, creations, creation_session, creation_attributes}
use Rattle.ck_journal.specs.Objects.{session_of, object_after, object_at, attributes_named, view_of}
use Rattle.ck_journal.specs.Objects.{is_session_object}
use Rattle.ck_journal.specs.Sessions.{opens, openings, closes, is_open}
use Rattle.ck_journal.proofs.LaterLemmas.{just_before}
use Rattle.ck_journal.proofs.LegalLemmas.{by-done, session-open, token_stays}
use Rattle.ck_journal.proofs.ProtectionLemmas.{kept-all}
use Rattle.ck_types.proofs.CheckLemmas.{or_else-none}

-- a creation stands in an open session
creation-open : (limits : Ranges) (h : History) (c : Call) → call_error limits h c ≡ None
    → creates (Some c) ≡ true → is_open h (creation_session (Some c)) ≡ true
creation-open limits h (call.CreateObject session template) p t =
    session-open h session (or_else-none (session_error h session) _ p).0
creation-open limits h (call.GenerateKey session mechanism template random) p t =
    session-open h session (or_else-none (session_error h session) _ p).0
creation-open limits h (call.CopyObject session object template) p t =
    session-open h session (or_else-none (session_error h session) _ p).0
creation-open limits h other p t = cc

-- and closes none
creation-closes : (d : Option Call) (s : ℕ) → creates d ≡ true → closes d s ≡ false
creation-closes (Some (call.CreateObject session template)) s t = refl
creation-closes (Some (call.GenerateKey session mechanism template random)) s t = refl
creation-closes (Some (call.CopyObject session object template)) s t = refl
creation-closes other s t = cc

-- what closes a session ends its session objects
closing-ends : (d : Option Call) (view : View) (n s : ℕ) (a : List Item) → closes d s ≡ true
    → is_session_object a ≡ true → object_after d view n s a ≡ None
closing-ends (Some (call.CloseSession session)) view n s a same t =
    ap (λ b. cond (b && session == s) None (Some a)) t ∙ ap (λ b. cond b None (Some a)) same
closing-ends (Some call.CloseAllSessions) view n s a same t =
    ap (λ b. cond b None (Some a)) t
closing-ends other view n s a same t = cc

-- an open session stays open where nothing closes it
open-stays : (opened closed was : Bool) → closed ≡ false → was ≡ true
    → cond opened true (cond closed false was) ≡ true
open-stays true closed was c w = refl
open-stays false true was c w = cc
open-stays false false was c w = w

not-closed : (d : Option Call) (view : View) (n s : ℕ) (a b : List Item) (closed : Bool)
    → closes d s ≡ closed → is_session_object a ≡ true → object_after d view n s a ≡ Some b
    → closed ≡ false
not-closed d view n s a b true c t now =
    let ended = closing-ends d view n s a c t in cc
not-closed d view n s a b false c t now = refl

pub session_object-open : SessionObjectsHaveOpenSessions
session_object-open limits (start b) good n a is session_object =
    let token = kept-all (λ items. is_set items attribute.Token ≡ true) n b.objects
    good.sound.token_objects a is in
    absurd (false≢true (ap not (sym token) ∙ session_object))
session_object-open limits (e ◁ h) good n a is session_object =
    cases (session_object-open limits h (just_before limits e h good))
    (creates (done e)) (n == suc (creations h)) refl refl (object_at h n) refl is
  where
    step : ℕ → Bool
    step s = cond (opens (done e) && s == suc (openings h)) true
        (cond (closes (done e) s) false (is_open h s))

    cases : ((k : ℕ) (b : List Item) → object_at h k ≡ Some b → is_session_object b ≡ true
        → is_open h (session_of h k) ≡ true)
        → (created new : Bool) → creates (done e) ≡ created → n == suc (creations h) ≡ new
        → (was : Option (List Item)) → object_at h n ≡ was
        → cond (created && new) (Some (creation_attributes (done e) (attributes_named h)))
        (option_and_then (object_after (done e) (view_of h) n (session_of h n)) was) ≡ Some a
        → step (cond (created && new) (creation_session (done e)) (session_of h n)) ≡ true
    cases before true true t s was w now =
        open-stays (opens (done e) && creation_session (done e) == suc (openings h))
        (closes (done e) (creation_session (done e))) (is_open h (creation_session (done e)))
        (creation-closes (done e) (creation_session (done e)) t)
        (by-done limits e h good.legal
        (λ d. creates d ≡ true → is_open h (creation_session d) ≡ true) (λ t. cc)
        (creation-open limits h) t)
    cases before created new t s None w now = cc
    cases before created new t s (Some b) w now =
        let kept = ap not (sym (token_stays limits e h good.sound good.legal n b a w is)) in
        open-stays (opens (done e) && session_of h n == suc (openings h))
        (closes (done e) (session_of h n)) (is_open h (session_of h n))
        (not-closed (done e) (view_of h) n (session_of h n) b a (closes (done e) (session_of h n))
        refl (kept ∙ session_object) now)
        (before n b w (kept ∙ session_object))
