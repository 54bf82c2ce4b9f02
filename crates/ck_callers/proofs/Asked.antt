-- What a caller knows that has read the board
use Rattle.std.proofs.Common.{◌≡◌, ℕ, sym, ◌∙◌}
use Rattle.ck_journal.specs.Callers.{entries_by, call_count}
use Rattle.ck_journal.specs.Fronts.{IsFront}
use Rattle.ck_journal.specs.Histories.{History}
use Rattle.ck_journal.proofs.CallerLemmas.{entries_by-front}
use Rattle.ck_journal.proofs.FrontLemmas.{front_trans}

-- it has no entries besides those of its last reply's history
pub own_same : (number count : ℕ) (last seen shown : History) → IsFront last seen
    → IsFront seen shown
    → call_count number last ≡ count → call_count number shown ≡ count
    → entries_by number shown ≡ entries_by number last
own_same number count last seen shown known front made counted =
    entries_by-front number last shown (front_trans last seen shown known front)
    (counted ∙ sym made)
