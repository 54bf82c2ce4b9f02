-- Entries and fronts of a history that goes on, by their numbers
use Rattle.std.proofs.Common.{◌≡◌, ℕ, suc, ◌≤◌, List, [], ◌∷◌, Some, cond, refl, ap, ◌∙◌, arith}
use Rattle.ck_journal.specs.declared.calls.Entry.{Entry}
use Rattle.ck_journal.specs.Fronts.{IsFront}
use Rattle.ck_journal.specs.Histories.{History, start, ◌◁◌, followed_by, entry_count, entry_at}
use Rattle.ck_journal.proofs.NumberTests.{below_suc, same_number}
use Rattle.ck_callers.proofs.KnownLemmas.{longer_later}
use Rattle.ck_callers.specs.Steps.{front_at}

-- ---- entries

entry_at-later : (g : History) (later : List Entry) (n : ℕ) → n ≤ entry_count g
    → entry_at (followed_by g later) n ≡ entry_at g n
entry_at-later g [] n within = refl
entry_at-later g (e ∷ later) n within =
    let longer = longer_later g later in
    ap (λ t. cond t (Some e) (entry_at (followed_by g later) n))
    (below_suc n (entry_count (followed_by g later)) (omega arith))
    ∙ entry_at-later g later n within

entry_at-newest : (e : Entry) (h : History) → entry_at (e ◁ h) (entry_count (e ◁ h)) ≡ Some e
entry_at-newest e h = ap (λ t. cond t (Some e) (entry_at h (suc (entry_count h))))
    (same_number (suc (entry_count h)))

-- the newest entry of a front stands at the front's length
pub entry_at-front : (e : Entry) (h all : History) → IsFront (e ◁ h) all
    → entry_at all (entry_count (e ◁ h)) ≡ Some e
entry_at-front e h all f =
    ap (λ x. entry_at x (entry_count (e ◁ h))) f.1
    ∙ entry_at-later (e ◁ h) f.0 (entry_count (e ◁ h)) (omega arith)
    ∙ entry_at-newest e h

-- ---- fronts

front_at-whole : (g : History) → front_at g (entry_count g) ≡ g
front_at-whole (start b) = refl
front_at-whole (e ◁ h) =
    ap (λ t. cond t (e ◁ h) (front_at h (suc (entry_count h)))) (same_number (suc (entry_count h)))

front_at-later : (g : History) (later : List Entry) → front_at (followed_by g later) (entry_count g)
    ≡ g
front_at-later g [] = front_at-whole g
front_at-later g (e ∷ later) =
    let longer = longer_later g later in
    ap (λ t. cond t (e ◁ followed_by g later) (front_at (followed_by g later) (entry_count g)))
    (below_suc (entry_count g) (entry_count (followed_by g later)) longer)
    ∙ front_at-later g later

-- a front is the one of its length
pub front_at-front : (g h : History) → IsFront g h → front_at h (entry_count g) ≡ g
front_at-front g h f = ap (λ x. front_at x (entry_count g)) f.1 ∙ front_at-later g f.0
