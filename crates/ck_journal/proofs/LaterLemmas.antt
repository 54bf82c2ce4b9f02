-- One entry more: what it keeps of the front just before it
use Rattle.std.proofs.Common.{◌≡◌, ℕ, suc, ◌≤◌, Bool, true, false, cond, List, Some, arith}
use Rattle.std.specs.Prelude.{◌==◌}
use Rattle.std.proofs.lemmas.Bool.{ne_eqb}
use Rattle.std.proofs.lemmas.Option.{option_and_then_some}
use Rattle.ck_types.specs.TokenLimits.{Ranges}
use Rattle.ck_objects.specs.declared.items.Item.{Item}
use Rattle.ck_journal.specs.declared.calls.Entry.{Entry}
use Rattle.ck_journal.specs.Histories.{History, ◌◁◌, done}
use Rattle.ck_journal.specs.Laws.{IsSoundHistory}
use Rattle.ck_journal.specs.Objects.{creates, creations, object_at, object_after, view_of}
use Rattle.ck_journal.specs.Objects.{session_of}
use Rattle.ck_journal.proofs.LegalLemmas.{not-created}

-- ---- a front of a sound history is one

pub just_before : (limits : Ranges) (e : Entry) (h : History) → IsSoundHistory limits (e ◁ h)
    → IsSoundHistory limits h
just_before limits e h good =
    record { in_range = good.in_range; sound = good.sound; legal = good.legal.1 }

-- ---- counts rise

pub count_rises : (more : Bool) (before now : ℕ) → before ≤ now → before ≤ cond more (suc now) now
count_rises true before now below = omega arith
count_rises false before now below = below

pub creations-next : (e : Entry) (h : History) → creations h ≤ creations (e ◁ h)
creations-next e h = count_rises (creates (done e)) (creations h) (creations h) (omega arith)

-- ---- an object that is there was there at each front since its creation

pub was_there : (e : Entry) (h : History) (n : ℕ) (a : List Item) → n ≤ creations h
    → object_at (e ◁ h) n ≡ Some a → (b : List Item) × (object_at h n ≡ Some b)
was_there e h n a within now =
    let older = ne_eqb n (suc (creations h)) (λ same. omega arith) in
    option_and_then_some (object_after (done e) (view_of h) n (session_of h n)) (object_at h n) a
    (not-created (creates (done e)) (n == suc (creations h)) _ _ a older now)
    (λ b there after. (b, there))
