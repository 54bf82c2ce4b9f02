-- The entries of a history, and their places in a list of them, the oldest first
use Rattle.std.proofs.Common.{◌≡◌, ℕ, zero, suc, ◌-◌, ◌<◌, List, [], ◌∷◌, ◌++◌, Some, None, length}
use Rattle.std.proofs.Common.{refl, sym, ap, ◌∙◌, arith, eqb, cond}
use Rattle.std.specs.Prelude.{reverse}
use Rattle.std.proofs.Math.Dec.{eqb-suc-suc, eqb-zero-suc, eqb-suc-zero}
use Rattle.std.specs.List.{slice_get}
use Rattle.std.proofs.lemmas.List.{reverse-reverse, length-reverse}
use Rattle.std.proofs.lemmas.Grind.{reverse_onto}
use Rattle.ck_journal.specs.declared.bases.Base.{Base}
use Rattle.ck_journal.specs.declared.calls.Entry.{Entry}
use Rattle.ck_journal.specs.Histories.{History, start, ◌◁◌, start_of, followed_by, entry_count}
use Rattle.ck_journal.specs.Histories.{entry_at}

slice_get-last : (es : List Entry) (e : Entry) (i : ℕ)
    → slice_get (es ++ e ∷ []) i ≡ cond (eqb i (length es)) (Some e) (slice_get es i)
slice_get-last [] e zero = refl
slice_get-last [] e (suc i) = rw eqb-suc-zero
slice_get-last (x ∷ es) e zero = rw eqb-zero-suc
slice_get-last (x ∷ es) e (suc i) = rw eqb-suc-suc (slice_get-last es e i)

-- no entry has the number 0
pub entry_at-zero : (h : History) → entry_at h 0 ≡ None
entry_at-zero (start b) = refl
entry_at-zero (e ◁ h) = rw eqb-zero-suc (entry_at-zero h)

module _ (b : Base) where
  pub start_of-followed_by : (es : List Entry) → start_of (followed_by (start b) es) ≡ b
  start_of-followed_by [] = refl
  start_of-followed_by (e ∷ es) = start_of-followed_by es

  pub entry_count-followed_by : (es : List Entry)
      → entry_count (followed_by (start b) es) ≡ length es
  entry_count-followed_by [] = refl
  entry_count-followed_by (e ∷ es) = ap suc (entry_count-followed_by es)

  -- the entry of a number stands one place before it
  slice_get-reverse : (es : List Entry) (i : ℕ)
      → slice_get (reverse es) i ≡ entry_at (followed_by (start b) es) (suc i)
  slice_get-reverse [] i = refl
  slice_get-reverse (e ∷ es) i =
      ap (λ items. slice_get items i) (reverse_onto es e [])
      ∙ slice_get-last (reverse es) e i
      ∙ ap (λ n. cond (eqb i n) (Some e) (slice_get (reverse es) i)) (length-same es)
      ∙ ap (λ o. cond (eqb i (entry_count (followed_by (start b) es))) (Some e) o)
      (slice_get-reverse es i)
      ∙ ap (λ t. cond t (Some e) (entry_at (followed_by (start b) es) (suc i)))
      (sym (eqb-suc-suc i (entry_count (followed_by (start b) es))))
    where
      length-same : (es : List Entry) → length (reverse es) ≡ entry_count (followed_by (start b) es)
      length-same es = length-reverse es ∙ sym (entry_count-followed_by es)

  pub entry_at-item : (es : List Entry) (number : ℕ) → 0 < number
      → slice_get es (number - 1) ≡ entry_at (followed_by (start b) (reverse es)) number
  entry_at-item es zero h = absurd (omega arith)
  entry_at-item es (suc i) h =
      let e : suc i - 1 ≡ i = omega arith in
      ap (slice_get es) e
      ∙ ap (λ items. slice_get items i) (sym (reverse-reverse es))
      ∙ slice_get-reverse (reverse es) i

-- a history without entries is its start
pub no_entries : (h : History) → entry_count h ≡ 0 → h ≡ start (start_of h)
no_entries (start b) none = refl
no_entries (e ◁ h) none = absurd (omega arith)

pub ruleset entries =
    (start_of-followed_by, entry_count-followed_by, length-reverse, entry_at-zero, entry_at-item)
