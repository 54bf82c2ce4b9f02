-- The entries of a caller in a history that goes on
use Rattle.std.proofs.Common.{◌≡◌, ℕ, zero, suc, ◌+◌, ◌-◌, ◌≤◌, Bool, true, false, List, [], ◌∷◌}
use Rattle.std.proofs.Common.{length, slice_index, slice_set, refl, sym, ap, ◌∙◌, cond, arith}
use Rattle.std.specs.Prelude.{◌==◌}
use Rattle.ck_journal.specs.declared.calls.Entry.{Entry}
use Rattle.ck_journal.specs.Callers.{entries_by, call_count, call_counts}
use Rattle.ck_journal.specs.Fronts.{IsFront}
use Rattle.ck_journal.specs.Histories.{History, start, ◌◁◌, followed_by, entry_count}
use Rattle.ck_journal.proofs.NumberTests.{same_number}

-- the caller's next entry
pub entries_by-own : (e : Entry) (h : History)
    → entries_by e.caller (e ◁ h) ≡ e ∷ entries_by e.caller h
entries_by-own e h =
    ap (λ t. cond t (e ∷ entries_by e.caller h) (entries_by e.caller h)) (same_number e.caller)

shorter_step : (t : Bool) (n : ℕ) (e : Entry) (es : List Entry) → n ≤ length es
    → n ≤ length (cond t (e ∷ es) es)
shorter_step true n e es below = omega arith
shorter_step false n e es below = below

shorter_before : (caller : ℕ) (g : History) (later : List Entry)
    → call_count caller g ≤ call_count caller (followed_by g later)
shorter_before caller g [] = omega arith
shorter_before caller g (e ∷ later) =
    shorter_step (e.caller == caller) (call_count caller g) e
    (entries_by caller (followed_by g later))
    (shorter_before caller g later)

same_step : (t : Bool) (old : List Entry) (e : Entry) (es : List Entry) → length old ≤ length es
    → (length es ≡ length old → es ≡ old)
    → length (cond t (e ∷ es) es) ≡ length old → cond t (e ∷ es) es ≡ old
same_step true old e es below same counts = absurd (omega arith)
same_step false old e es below same counts = same counts

same_before : (caller : ℕ) (g : History) (later : List Entry)
    → call_count caller (followed_by g later) ≡ call_count caller g
    → entries_by caller (followed_by g later) ≡ entries_by caller g
same_before caller g [] counts = refl
same_before caller g (e ∷ later) counts =
    same_step (e.caller == caller) (entries_by caller g) e (entries_by caller (followed_by g later))
    (shorter_before caller g later) (same_before caller g later) counts

-- where a front has as many entries of the caller, they are the same
pub entries_by-front : (caller : ℕ) (g h : History) → IsFront g h
    → call_count caller h ≡ call_count caller g
    → entries_by caller h ≡ entries_by caller g
entries_by-front caller g h f counts =
    ap (entries_by caller) f.1
    ∙ same_before caller g f.0 (ap (call_count caller) (sym f.1) ∙ counts)

-- ---- counts

within_step : (t : Bool) (n : ℕ) (e : Entry) (es : List Entry) → length es ≤ n
    → length (cond t (e ∷ es) es) ≤ suc n
within_step true n e es below = omega arith
within_step false n e es below = omega arith

pub call_count-within : (caller : ℕ) (h : History) → call_count caller h ≤ entry_count h
call_count-within caller (start b) = omega arith
call_count-within caller (e ◁ h) =
    within_step (e.caller == caller) (entry_count h) e (entries_by caller h)
    (call_count-within caller h)

-- the count of a caller among all
pub call_counts-at : (caller : ℕ) (h : History) → 1 ≤ caller → caller ≤ 8
    → slice_index (call_counts h) (caller - 1) ≡ call_count caller h
call_counts-at zero h low high = absurd (omega arith)
call_counts-at (suc zero) h low high = refl
call_counts-at (suc (suc zero)) h low high = refl
call_counts-at (suc (suc (suc zero))) h low high = refl
call_counts-at (suc (suc (suc (suc zero)))) h low high = refl
call_counts-at (suc (suc (suc (suc (suc zero))))) h low high = refl
call_counts-at (suc (suc (suc (suc (suc (suc zero)))))) h low high = refl
call_counts-at (suc (suc (suc (suc (suc (suc (suc zero))))))) h low high = refl
call_counts-at (suc (suc (suc (suc (suc (suc (suc (suc zero)))))))) h low high = refl
call_counts-at (suc (suc (suc (suc (suc (suc (suc (suc (suc n))))))))) h low high =
    absurd (omega arith)

one_more : (e : Entry) (es : List Entry) → length (e ∷ es) ≡ length es + 1
one_more e es = omega arith

-- the counts after an entry of this caller
abbrev counts_after : ℕ → Entry → History → List ℕ
counts_after caller e h =
    length (cond (caller == 1) (e ∷ entries_by 1 h) (entries_by 1 h))
    ∷ length (cond (caller == 2) (e ∷ entries_by 2 h) (entries_by 2 h))
    ∷ length (cond (caller == 3) (e ∷ entries_by 3 h) (entries_by 3 h))
    ∷ length (cond (caller == 4) (e ∷ entries_by 4 h) (entries_by 4 h))
    ∷ length (cond (caller == 5) (e ∷ entries_by 5 h) (entries_by 5 h))
    ∷ length (cond (caller == 6) (e ∷ entries_by 6 h) (entries_by 6 h))
    ∷ length (cond (caller == 7) (e ∷ entries_by 7 h) (entries_by 7 h))
    ∷ length (cond (caller == 8) (e ∷ entries_by 8 h) (entries_by 8 h)) ∷ []

counts_after-set : (caller : ℕ) (e : Entry) (h : History) → 1 ≤ caller → caller ≤ 8
    → counts_after caller e h ≡ slice_set (call_counts h) (caller - 1) (call_count caller h + 1)
counts_after-set zero e h low high = absurd (omega arith)
counts_after-set (suc zero) e h low high =
    ap (slice_set (call_counts h) 0) (one_more e (entries_by 1 h))
counts_after-set (suc (suc zero)) e h low high =
    ap (slice_set (call_counts h) 1) (one_more e (entries_by 2 h))
counts_after-set (suc (suc (suc zero))) e h low high =
    ap (slice_set (call_counts h) 2) (one_more e (entries_by 3 h))
counts_after-set (suc (suc (suc (suc zero)))) e h low high =
    ap (slice_set (call_counts h) 3) (one_more e (entries_by 4 h))
counts_after-set (suc (suc (suc (suc (suc zero))))) e h low high =
    ap (slice_set (call_counts h) 4) (one_more e (entries_by 5 h))
counts_after-set (suc (suc (suc (suc (suc (suc zero)))))) e h low high =
    ap (slice_set (call_counts h) 5) (one_more e (entries_by 6 h))
counts_after-set (suc (suc (suc (suc (suc (suc (suc zero))))))) e h low high =
    ap (slice_set (call_counts h) 6) (one_more e (entries_by 7 h))
counts_after-set (suc (suc (suc (suc (suc (suc (suc (suc zero)))))))) e h low high =
    ap (slice_set (call_counts h) 7) (one_more e (entries_by 8 h))
counts_after-set (suc (suc (suc (suc (suc (suc (suc (suc (suc n))))))))) e h low high =
    absurd (omega arith)

-- an entry counts for its caller
pub call_counts-next : (caller : ℕ) (e : Entry) (h : History) → e.caller ≡ caller → 1 ≤ caller
    → caller ≤ 8
    → call_counts (e ◁ h) ≡ slice_set (call_counts h) (caller - 1) (call_count caller h + 1)
call_counts-next caller e h is low high =
    ap (λ c. counts_after c e h) is ∙ counts_after-set caller e h low high
