-- At most one verdict is so, and how the entries of a log lead to one
use Rattle.std.proofs.Common.{◌≡◌, ◌≢◌, ◌⊎◌, inl, inr, ℕ, suc, ◌+◌, List, [], ◌∷◌}
use Rattle.std.proofs.Common.{refl, sym, ap, ◌∙◌, subst, arith}
use Rattle.std.specs.Prelude.{reverse}
use Rattle.ck_types.specs.TokenLimits.{Ranges}
use Rattle.ck_journal.specs.declared.calls.Entry.{Entry}
use Rattle.ck_journal.specs.Answers.{answer, IsLegal}
use Rattle.ck_journal.specs.Fronts.{extended_by}
use Rattle.ck_journal.specs.Histories.{History, start, ◌◁◌, followed_by, entry_count}
use Rattle.ck_journal.proofs.FrontLemmas.{extended_by-reverse}
use Rattle.ck_audit.specs.Verdicts.{IsFirstWrong, IsVerdict}
use Rattle.ck_audit.specs.declared.audits.Verdict.{Verdict}
use Rattle.ck_audit.specs.declared.audits.Verdict.TheVariants as verdict

module _ (limits : Ranges) where
  legal-front : (h : History) (later : List Entry) → IsLegal limits (followed_by h later)
      → IsLegal limits h
  legal-front h [] legal = legal
  legal-front h (e ∷ later) legal = legal-front h later legal.1

  legal-right : (h : History) (n : ℕ) → IsLegal limits h → IsFirstWrong limits h n → ⊥
  legal-right h n legal w =
      w.wrong (legal-front (w.entry ◁ w.front) w.later (subst (IsLegal limits) w.parts legal)).0

  -- the first wrong entry is the newest, or stands before it
  abbrev IsNewestWrong : Entry → History → ℕ → Type 0
  IsNewestWrong e h n = (n ≡ suc (entry_count h)) × IsLegal limits h
      × (e.reply ≢ answer limits h e.call)

  wrong-case : (e : Entry) (h : History) (n : ℕ) → IsFirstWrong limits (e ◁ h) n
      → IsFirstWrong limits h n ⊎ IsNewestWrong e h n
  wrong-case e h n w = by_later w.later w.parts
    where
      by_later : (later : List Entry) → e ◁ h ≡ followed_by (w.entry ◁ w.front) later
          → IsFirstWrong limits h n ⊎ IsNewestWrong e h n
      by_later [] parts =
          let front : w.front ≡ h = cc in
          let entry : w.entry ≡ e = cc in
          inr (
            w.is_number ∙ ap (λ g. suc (entry_count g)) front,
            subst (IsLegal limits) front w.legal,
            (λ same. w.wrong (rw (entry, front) same)),
          )
      by_later (x ∷ later) parts = inl (record {
        front = w.front;
        entry = w.entry;
        later = later;
        parts = cc;
        is_number = w.is_number;
        legal = w.legal;
        wrong = w.wrong;
      })

  -- no two entries are the first wrong one
  pub first_wrong : (h : History) (n m : ℕ) → IsFirstWrong limits h n → IsFirstWrong limits h m
      → n ≡ m
  first_wrong (start b) n m one other = none one.later one.parts
    where
      none : (later : List Entry) → start b ≡ followed_by (one.entry ◁ one.front) later → n ≡ m
      none [] parts = cc
      none (x ∷ later) parts = cc
  first_wrong (e ◁ h) n m one other = elim (wrong-case e h n one) [
    | inl before ↦ elim (wrong-case e h m other) [
      | inl too ↦ first_wrong h n m before too
      | inr newest ↦ absurd (legal-right h n newest.1 before)
    ]
    | inr newest ↦ elim (wrong-case e h m other) [
      | inl before ↦ absurd (legal-right h m newest.1 before)
      | inr too ↦ newest.0 ∙ sym too.0
    ]
  ]

  -- what a verdict says that is so
  pub verdict-legal : (h : History) (found : Verdict) → IsVerdict limits h found
      → (found ≡ verdict.Legal → IsLegal limits h) × (IsLegal limits h → found ≡ verdict.Legal)
  verdict-legal h verdict.Legal so = ((λ is. so), (λ legal. refl))
  verdict-legal h (verdict.Wrong n) so = ((λ is. cc), (λ legal. absurd (legal-right h n legal so)))

  pub verdict-wrong : (h : History) (found : Verdict) → IsVerdict limits h found → (n : ℕ)
      → (found ≡ verdict.Wrong n → IsFirstWrong limits h n)
      × (IsFirstWrong limits h n → found ≡ verdict.Wrong n)
  verdict-wrong h verdict.Legal so n = ((λ is. cc), (λ wrong. absurd (legal-right h n so wrong)))
  verdict-wrong h (verdict.Wrong m) so n = (
    (λ is. let same : m ≡ n = cc in subst (IsFirstWrong limits h) same so),
    (λ wrong. ap verdict.Wrong (first_wrong h m n so wrong)),
  )

-- an entry whose reply is wrong, between a legal history and the later entries of a log
pub wrong-next : (limits : Ranges) (h : History) (e : Entry) (later : List Entry)
    → IsLegal limits h → (e.reply ≢ answer limits h e.call)
    → IsFirstWrong limits (extended_by h (e ∷ later)) (entry_count h + 1)
wrong-next limits h e later legal wrong = record {
  front = h;
  entry = e;
  later = reverse later;
  parts = extended_by-reverse (e ◁ h) later;
  is_number = omega arith;
  legal = legal;
  wrong = wrong;
}
