-- What the books say of a caller
use Rattle.std.proofs.Common.{◌≡◌, ℕ, ◌-◌, ◌≤◌, List, slice_index, sym, ap, ◌∙◌}
use Rattle.ck_journal.specs.Callers.{call_count, call_counts}
use Rattle.ck_journal.specs.Fronts.{IsFront}
use Rattle.ck_journal.specs.Histories.{History}
use Rattle.ck_journal.proofs.CallerLemmas.{entries_by-front, call_counts-at}
use Rattle.ck_journal.proofs.FrontLemmas.{front_trans}
use Rattle.ck_callers.specs.Callers.{CallerState, IsSettled}

pub settled : (h : History) (c : CallerState) (counts : List ℕ) → 1 ≤ c.number → c.number ≤ 8
    → counts ≡ call_counts h
    → c.count ≡ slice_index counts (c.number - 1) → IsFront c.last c.seen
    → call_count c.number c.last ≡
    c.count → IsFront c.seen h
    → IsSettled h c
settled h c counts low high books same known made front =
    let count : call_count c.number h ≡ c.count =
    sym (same ∙ ap (λ xs. slice_index xs (c.number - 1)) books
    ∙ call_counts-at c.number h low high) in
    record {
      front = front;
      count = count;
      own = entries_by-front c.number c.last h (front_trans c.last c.seen h known front)
          (count ∙ sym made);
    }
