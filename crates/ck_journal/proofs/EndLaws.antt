-- What has ended doesn't come back, over calls and cuts
use Rattle.std.proofs.Common.{◌≡◌, ℕ, ◌≤◌, cond, [], ◌∷◌, Option, Some, None, refl, sym, ap}
use Rattle.std.proofs.Common.{◌∙◌, arith}
use Rattle.std.specs.Prelude.{option_and_then}
use Rattle.ck_types.specs.TokenLimits.{Ranges}
use Rattle.ck_types.specs.declared.errors.RvError.TheVariants as rv_error
use Rattle.ck_journal.specs.declared.calls.Call.TheVariants as call
use Rattle.ck_journal.specs.declared.calls.Entry.{Entry}
use Rattle.ck_journal.specs.Answers.{destruction_error, object_error, session_error}
use Rattle.ck_journal.specs.Events.{answered, cut, after_events}
use Rattle.ck_journal.specs.Histories.{History, ◌◁◌, done}
use Rattle.ck_journal.specs.Laws.{IsSoundHistory}
use Rattle.ck_journal.specs.LawsOverEvents.{DestroyedHandlesNameNothing, EndedObjectsStayEnded}
use Rattle.ck_journal.specs.Objects.{attributes_named, creates, creations, object_after, object_at}
use Rattle.ck_journal.specs.Objects.{object_named, session_of, view_of}
use Rattle.ck_journal.specs.Searches.{number_of_handle}
use Rattle.ck_journal.proofs.CutBases.{kept-object}
use Rattle.ck_journal.proofs.EventLemmas.{creations-rise, events-before, sound-after}
use Rattle.ck_journal.proofs.LaterLemmas.{was_there}
use Rattle.ck_journal.proofs.LegalLemmas.{last-passes, later-passes, object-found, passed-done}
use Rattle.ck_journal.proofs.NameLemmas.{named-number, named-object, named-passes}
use Rattle.ck_journal.proofs.ObjectMoves.{creations-same, object_at-later, object_at-within}

not-some : {X : Type 0} (o : Option X) → ((x : X) → o ≡ Some x → ⊥) → o ≡ None
not-some None never = refl
not-some (Some x) never = absurd (never x refl)

not-both : {X : Type 0} (o : Option X) (x : X) → o ≡ None → o ≡ Some x → ⊥
not-both None x none some = cc
not-both (Some y) x none some = cc

pub ended-stay : EndedObjectsStayEnded
ended-stay limits h [] sound n created ended = ended
ended-stay limits h (answered e ∷ later) sound n created ended =
    let front = after_events h later in
    let before =
    ended-stay limits h later (events-before limits h (answered e) later sound) n created ended in
    let rises = creations-rise h later in
    not-some (object_at (e ◁ front) n)
    (λ a now.
    let was = was_there e front n a (omega (arith, created, rises)) now in
    not-both (object_at front n) was.0 before was.1)
ended-stay limits h (cut ∷ later) sound n created ended =
    let before = events-before limits h cut later sound in
    let front = sound-after limits h later before in
    kept-object (after_events h later) n front.sound
    ∙ ended-stay limits h later before n created ended

-- the number of the object that a destruction names, which is gone then
pub destroyed-object : (limits : Ranges) (e : Entry) (h : History)
    → IsSoundHistory limits (e ◁ h) → (session handle : ℕ)
    → done e ≡ Some (call.DestroyObject session handle)
    → (n : ℕ) × (n ≡ number_of_handle handle) × (n ≤ creations (e ◁ h))
    × (object_at (e ◁ h) n ≡ None)
destroyed-object limits e h good session handle did =
    let found = object-found (attributes_named h handle) (destruction_error h session)
    rv_error.ObjectHandleInvalid
    (last-passes (object_error h handle _) (later-passes (session_error h session) _
    (passed-done limits e h good.legal (call.DestroyObject session handle) did))) in
    let named = named-object h handle found.0 found.1 in
    let n = named.0 in
    let within = object_at-within h good.sound n found.0 named.2 in
    let count = creations-same e h (ap creates did) in (
      n,
      named-number limits good.in_range h good.sound good.legal.1 handle n found.0 named.2 named.3,
      omega (arith, within.1, count),
      object_at-later e h (ap creates did) n
          ∙ ap (option_and_then (object_after (done e) (view_of h) n (session_of h n))) named.2
          ∙ ap (λ d. object_after d (view_of h) n (session_of h n) found.0) did
          ∙ ap (λ t. cond t None (Some found.0)) named.3,
    )

pub destroyed-name_nothing : DestroyedHandlesNameNothing
destroyed-name_nothing limits h e later sound session handle did =
    let front = after_events (e ◁ h) later in
    let good = sound-after limits (e ◁ h) later sound in
    let gone = destroyed-object limits e h sound.good session handle did in
    let still = ended-stay limits (e ◁ h) later sound gone.0 gone.2 gone.3 in
    not-some (object_named front handle)
    (λ n names.
    let there = named-passes front handle n names in
    let same = named-number limits good.in_range front good.sound good.legal handle n there.0
    there.1 there.2 in
    not-both (object_at front n) there.0
    (ap (object_at front) (same ∙ sym gone.1) ∙ still) there.1)
