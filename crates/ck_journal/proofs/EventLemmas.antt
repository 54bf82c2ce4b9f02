-- What calls and cuts keep, in any order
use Rattle.std.proofs.Common.{◌≡◌, ℕ, ◌≤◌, List, [], ◌∷◌, Some, sym, ◌∙◌, subst, arith}
use Rattle.std.proofs.lemmas.Option.{same_Some}
use Rattle.ck_types.specs.TokenLimits.{Ranges}
use Rattle.ck_objects.specs.declared.items.Item.{Item}
use Rattle.ck_journal.specs.declared.calls.Entry.{Entry}
use Rattle.ck_journal.specs.Events.{Event, answered, cut, after_events, AreSoundEvents}
use Rattle.ck_journal.specs.Histories.{History, ◌◁◌, done}
use Rattle.ck_journal.specs.Laws.{IsSoundHistory}
use Rattle.ck_journal.specs.Objects.{creates, creations, object_at}
use Rattle.ck_journal.specs.Sessions.{opens, openings}
use Rattle.ck_journal.proofs.CutBases.{base-sound, kept-object}
use Rattle.ck_journal.proofs.LaterLemmas.{count_rises, was_there}
use Rattle.ck_journal.proofs.ObjectMoves.{object_at-within}

-- ---- sound histories

pub events-before : (limits : Ranges) (h : History) (event : Event) (later : List Event)
    → AreSoundEvents limits h (event ∷ later) → AreSoundEvents limits h later
events-before limits h (answered e) later sound =
    record { good = sound.good; legal = sound.legal.1 }
events-before limits h cut later sound = record { good = sound.good; legal = sound.legal.1 }

-- sound events leave a sound history
pub sound-after : (limits : Ranges) (h : History) (later : List Event)
    → AreSoundEvents limits h later → IsSoundHistory limits (after_events h later)
sound-after limits h [] sound = sound.good
sound-after limits h (answered e ∷ later) sound =
    let before = sound-after limits h later (events-before limits h (answered e) later sound) in
    record {
      in_range = before.in_range;
      sound = before.sound;
      legal = (sound.legal.0, before.legal);
    }
sound-after limits h (cut ∷ later) sound =
    let before = sound-after limits h later (events-before limits h cut later sound) in
    record {
      in_range = before.in_range;
      sound = base-sound limits (after_events h later) before sound.legal.0;
      legal = tt;
    }

-- ---- counts rise

pub openings-rise : (h : History) (later : List Event)
    → openings h ≤ openings (after_events h later)
openings-rise h [] = omega arith
openings-rise h (answered e ∷ later) =
    count_rises (opens (done e)) (openings h) (openings (after_events h later))
    (openings-rise h later)
openings-rise h (cut ∷ later) = openings-rise h later

pub creations-rise : (h : History) (later : List Event)
    → creations h ≤ creations (after_events h later)
creations-rise h [] = omega arith
creations-rise h (answered e ∷ later) =
    count_rises (creates (done e)) (creations h) (creations (after_events h later))
    (creations-rise h later)
creations-rise h (cut ∷ later) = creations-rise h later

-- ---- objects

-- what each entry keeps of the attributes of an object that it doesn't end, calls and cuts keep
module _ (limits : Ranges) (Keeps : List Item → List Item → Type 0)
    (itself : (a : List Item) → Keeps a a)
    (both : (a b c : List Item) → Keeps a b → Keeps b c → Keeps a c)
    (each : (e : Entry) (h : History) → IsSoundHistory limits (e ◁ h) → (n : ℕ) (a b : List Item)
    → object_at h n ≡ Some a → object_at (e ◁ h) n ≡ Some b → Keeps a b) where
  pub events-keep : (h : History) (later : List Event) → AreSoundEvents limits h later
      → (n : ℕ) (a b : List Item)
      → object_at h n ≡ Some a → object_at (after_events h later) n ≡ Some b → Keeps a b
  events-keep h [] sound n a b was now =
      subst (Keeps a) (same_Some a b (sym was ∙ now)) (itself a)
  events-keep h (answered e ∷ later) sound n a b was now =
      let front = after_events h later in
      let before = events-before limits h (answered e) later sound in
      let within = object_at-within h sound.good.sound n a was in
      let rises = creations-rise h later in
      let between = was_there e front n b (omega (arith, within.1)) now in
      both a between.0 b (events-keep h later before n a between.0 was between.1)
      (each e front (sound-after limits h (answered e ∷ later) sound) n between.0 b between.1 now)
  events-keep h (cut ∷ later) sound n a b was now =
      let before = events-before limits h cut later sound in
      let front = sound-after limits h later before in
      let kept = kept-object (after_events h later) n front.sound in
      events-keep h later before n a b was (sym kept ∙ now)
