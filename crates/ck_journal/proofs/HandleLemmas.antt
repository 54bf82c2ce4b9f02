-- The handles of objects and of sessions
use Rattle.std.proofs.Common.{◌≡◌, ℕ, suc, ◌≤◌, Bool, true, false, ◌&&◌, List, [], ◌∷◌}
use Rattle.std.proofs.Common.{refl, sym, ap, ◌∙◌, arith}
use Rattle.ck_types.specs.TokenLimits.{Ranges}
use Rattle.ck_journal.specs.declared.calls.Call.TheVariants as call
use Rattle.ck_journal.specs.declared.calls.Entry.{Entry}
use Rattle.ck_journal.specs.declared.replies.Body.TheVariants as body
use Rattle.ck_journal.specs.declared.replies.Reply.{Reply}
use Rattle.ck_journal.specs.Answers.{IsLegal, new_handle}
use Rattle.ck_journal.specs.Events.{Event, answered, cut, after_events}
use Rattle.ck_journal.specs.Histories.{History, ◌◁◌, done}
use Rattle.ck_journal.specs.Laws.{IsSoundHistory}
use Rattle.ck_journal.specs.LawsOverEvents.{HandlesNameOneObject, Names, IsNotCreated}
use Rattle.ck_journal.specs.LawsOverEvents.{NewObjectsHaveNewHandles, ObjectHandlesAreGivenOnce}
use Rattle.ck_journal.specs.LawsOverEvents.{SessionHandlesAreGivenOnce, GivesObject, GivesSession}
use Rattle.ck_journal.specs.LawsOverEvents.{HandlesAreNotZero}
use Rattle.ck_journal.specs.Objects.{creates, creations}
use Rattle.ck_journal.specs.Searches.{number_of_handle}
use Rattle.ck_journal.specs.Sessions.{openings}
use Rattle.ck_journal.proofs.EventLemmas.{sound-after, creations-rise, openings-rise}
use Rattle.ck_journal.proofs.LegalLemmas.{allowed-done}
use Rattle.ck_journal.proofs.NameLemmas.{named-number}
use Rattle.ck_journal.proofs.NumberTests.{below_suc}
use Rattle.ck_journal.proofs.ObjectMoves.{object_at-within, creations-created}
use Rattle.ck_journal.proofs.OpenLemmas.{opening-call}
use Rattle.ck_journal.proofs.ReturnedHandleLemmas.{new-attributes, creation-body, new-number}
use Rattle.ck_journal.proofs.SessionMoves.{openings-opened}

-- ---- one object

-- at two sound fronts a handle names one object
names-one : (limits : Ranges) (h g : History) → IsSoundHistory limits h
    → IsSoundHistory limits g → (handle n m : ℕ) → Names h handle n → Names g handle m → n ≡ m
names-one limits h g one other handle n m first last =
    named-number limits one.in_range h one.sound one.legal handle n first.attributes
    first.present first.named
    ∙ sym (named-number limits other.in_range g other.sound other.legal handle m
    last.attributes last.present last.named)

-- the number of an object that was there isn't given again
none-created : (h : History) (later : List Event) (n : ℕ) → n ≤ creations h
    → IsNotCreated h later n
none-created h [] n within = tt
none-created h (answered e ∷ later) n within =
    let rises = creations-rise h later in
    let older = below_suc n (creations (after_events h later)) (omega arith) in (
      ap (λ same. creates (done e) && same) older ∙ none-here (creates (done e)),
      none-created h later n within,
    )
  where
    none-here : (created : Bool) → (created && false) ≡ false
    none-here true = refl
    none-here false = refl
none-created h (cut ∷ later) n within = none-created h later n within

pub names-one_object : HandlesNameOneObject
names-one_object limits h later sound handle n m first last =
    let within = object_at-within h sound.good.sound n first.attributes first.present in (
      names-one limits h (after_events h later) sound.good (sound-after limits h later sound) handle
          n m first last,
      none-created h later n within.1,
    )

-- ---- handles of new objects

-- the handle of a new object has its number
given-object : (limits : Ranges) (e : Entry) (h : History) → IsSoundHistory limits (e ◁ h)
    → (handle : ℕ) → GivesObject e handle
    → (suc (creations h) ≡ number_of_handle handle) × (creations (e ◁ h) ≡ suc (creations h))
given-object limits e h good handle gives =
    let same : body.Handle (new_handle h (new-attributes e h)) ≡ body.Handle handle =
    sym (creation-body e h limits good.legal gives.creates) ∙ gives.returns in (
      new-number e h limits good gives.creates handle cc,
      creations-created e h gives.creates,
    )

pub new_objects-new_handles : NewObjectsHaveNewHandles
new_objects-new_handles limits h later e sound handle n names gives =
    let front = after_events h later in
    let a = given-object limits e front (sound-after limits h (answered e ∷ later) sound) handle
    gives in
    let named = named-number limits sound.good.in_range h sound.good.sound sound.good.legal handle n
    names.attributes names.present names.named in
    let within = object_at-within h sound.good.sound n names.attributes names.present in
    let rises = creations-rise h later in
    omega (arith, a.0, within.1)

pub object_handles-once : ObjectHandlesAreGivenOnce
object_handles-once limits h first later second sound handle one other =
    let created = first ◁ h in
    let front = after_events created later in
    let a = given-object limits first h sound.good handle one in
    let b = given-object limits second front
    (sound-after limits created (answered second ∷ later) sound) handle other in
    let rises = creations-rise created later in
    let first_count : creations created ≡ suc (creations h) = a.1 in
    omega (arith, a.0, b.0, a.1, rises)

-- ---- handles of sessions

-- the handle of a new session is the count of the openings with it
given-session : (limits : Ranges) (e : Entry) (h : History) → IsLegal limits (e ◁ h)
    → (handle : ℕ) → GivesSession e handle
    → (handle ≡ suc (openings h)) × (openings (e ◁ h) ≡ suc (openings h))
given-session limits e h legal handle gives =
    let opening = opening-call (done e) gives.opens in
    let reply = allowed-done limits e h legal (call.OpenSession opening.0) opening.1 in
    let same : body.Handle handle ≡ body.Handle (suc (openings h)) =
    sym gives.returns ∙ ap (λ (r : Reply). r.body) reply in
    (cc, openings-opened e h opening.0 opening.1)

pub session_handles-once : SessionHandlesAreGivenOnce
session_handles-once limits h first later second sound handle one other =
    let opened = first ◁ h in
    let front = after_events opened later in
    let after = sound-after limits opened (answered second ∷ later) sound in
    let a = given-session limits first h sound.good.legal handle one in
    let b = given-session limits second front after.legal handle other in
    let rises = openings-rise opened later in
    let first_count : openings opened ≡ suc (openings h) = a.1 in
    omega (arith, a.0, b.0, a.1, rises)

-- ---- 0 is no handle

pub handles-not_zero : HandlesAreNotZero
handles-not_zero limits e h good = (
  λ gives. let object = given-object limits e h good 0 gives in omega (arith, object.0),
  λ gives. let session = given-session limits e h good.legal 0 gives in omega (arith, session.0),
)
