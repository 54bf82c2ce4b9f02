-- Fronts of histories, and logs that go on
use Rattle.std.proofs.Common.{◌≡◌, ◌+◌, List, [], ◌∷◌, ◌++◌, length, refl, sym, ap, ◌∙◌, subst}
use Rattle.std.proofs.Common.{arith}
use Rattle.std.specs.Prelude.{reverse}
use Rattle.std.proofs.lemmas.Grind.{reverse_onto}
use mathlib.Core.List.{IsPrefix}
use Rattle.ck_journal.specs.declared.bases.Base.{Base}
use Rattle.ck_journal.specs.declared.calls.Entry.{Entry}
use Rattle.ck_journal.specs.Fronts.{extended_by, history_of, IsFront}
use Rattle.ck_journal.specs.Histories.{History, start, ◌◁◌, followed_by, entry_count}

-- ---- fronts

pub front_refl : (h : History) → IsFront h h
front_refl h = ([], refl)

pub followed_by-append : (h : History) (later before : List Entry)
    → followed_by (followed_by h before) later ≡ followed_by h (later ++ before)
followed_by-append h [] before = refl
followed_by-append h (e ∷ later) before = ap (λ g. e ◁ g) (followed_by-append h later before)

pub front_trans : (f g h : History) → IsFront f g → IsFront g h → IsFront f h
front_trans f g h p q =
    (q.0 ++ p.0, q.1 ∙ ap (λ x. followed_by x q.0) p.1 ∙ followed_by-append f q.0 p.0)

-- ---- logs

pub front_extended : (h : History) (log : List Entry) → IsFront h (extended_by h log)
front_extended h [] = front_refl h
front_extended h (e ∷ log) =
    front_trans h (e ◁ h) (extended_by (e ◁ h) log) (e ∷ [], refl) (front_extended (e ◁ h) log)

pub extended_by-append : (h : History) (log later : List Entry)
    → extended_by h (log ++ later) ≡ extended_by (extended_by h log) later
extended_by-append h [] later = refl
extended_by-append h (e ∷ log) later = extended_by-append (e ◁ h) log later

entry_count-extended : (h : History) (log : List Entry)
    → entry_count (extended_by h log) ≡ length log + entry_count h
entry_count-extended h [] = omega arith
entry_count-extended h (e ∷ log) = let below = entry_count-extended (e ◁ h) log in omega arith

module _ (b : Base) where
  pub entry_count-log : (log : List Entry) → entry_count (history_of b log) ≡ length log
  entry_count-log log = let all = entry_count-extended (start b) log in omega arith

  -- one more entry of the log
  pub history_of-next : (log : List Entry) (e : Entry)
      → history_of b (log ++ e ∷ []) ≡ e ◁ history_of b log
  history_of-next log e = extended_by-append (start b) log (e ∷ [])

  -- the history of a beginning of a log is a front
  pub front_of_prefix : (log all : List Entry) → IsPrefix log all
      → IsFront (history_of b log) (history_of b all)
  front_of_prefix log all p =
      subst (λ x. IsFront (history_of b log) x) (sym (extended_by-append (start b) log p.0) ∙ ap
      (history_of b) p.1) (front_extended (history_of b log) p.0)

-- a log and the same entries, the newest first
pub extended_by-reverse : (h : History) (log : List Entry)
    → extended_by h log ≡ followed_by h (reverse log)
extended_by-reverse h [] = refl
extended_by-reverse h (e ∷ log) =
    extended_by-reverse (e ◁ h) log
    ∙ followed_by-append h (reverse log) (e ∷ [])
    ∙ ap (followed_by h) (sym (reverse_onto log e []))
