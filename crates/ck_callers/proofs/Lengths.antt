-- Fronts of one history, by the logs that were seen and their lengths
use Rattle.std.proofs.Common.{◌≡◌, ℕ, ◌+◌, ◌≤◌, List, [], ◌∷◌, ◌++◌, length, sym, ap, ◌∙◌}
use Rattle.std.proofs.Common.{subst, arith, length-append}
use mathlib.Core.List.{IsPrefix}
use Rattle.ck_journal.specs.declared.bases.Base.{Base}
use Rattle.ck_journal.specs.declared.calls.Entry.{Entry}
use Rattle.ck_journal.specs.Fronts.{history_of, IsFront}
use Rattle.ck_journal.specs.Histories.{History, ◌◁◌, entry_count}
use Rattle.ck_journal.proofs.FrontLemmas.{entry_count-log, front_of_prefix, history_of-next}
use Rattle.ck_callers.proofs.Prefixes.{prefix_shorter, prefix_whole, prefix_length}

module _ (b : Base) where
  pub count_is : (log : List Entry) (h : History) (n : ℕ) → n ≡ length log → history_of b log ≡ h
      → n ≡ entry_count h
  count_is log h n len is = len ∙ sym (entry_count-log b log) ∙ ap entry_count is

  module _ (one two all : List Entry) (g h : History) (p : IsPrefix one all) (q : IsPrefix two all)
      (is : history_of b one ≡ g) (also : history_of b two ≡ h) where
    -- of two fronts the shorter begins the longer
    pub shorter_begins : length one ≤ length two → IsFront g h
    shorter_begins len =
        subst (λ x. IsFront x h) is (subst (IsFront (history_of b one)) also
        (front_of_prefix b one two (prefix_shorter one two all p q len)))

  -- an entry was added to all that was seen, which was as long as the one front: the history is
  -- then that front and the entry, and the other begins that front
  pub entry_added : (one two seen log : List Entry) (e : Entry) (g h : History)
      (p : IsPrefix one seen) (q : IsPrefix two seen)
      → history_of b one ≡ g → history_of b two ≡ h
      → (n : ℕ) → n ≡ length one → (log ≡ seen ++ e ∷ []) × (length seen ≡ n)
      → (n + 1 ≡ length log) × (history_of b log ≡ e ◁ g) × IsFront h g
  entry_added one two seen log e g h p q is also n len added =
      let same : one ≡ seen = prefix_whole one seen p (omega arith) in
      let short : length two ≤ length one = omega (arith, prefix_length two seen q) in (
        omega (arith, ap length added.0, length-append seen (e ∷ [])),
        ap (history_of b) added.0 ∙ history_of-next b seen e
            ∙ ap (λ xs. e ◁ history_of b xs) (sym same)
            ∙ ap (λ x. e ◁ x) is,
        shorter_begins two one seen h g q p also is short,
      )
