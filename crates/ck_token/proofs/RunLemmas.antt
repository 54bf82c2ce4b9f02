-- A run of a list of calls, of which some are answered and the rest is left
use Rattle.std.proofs.Common.{◌≡◌, ℕ, suc, ◌+◌, ◌<◌, ◌≤◌, false, List, [], ◌∷◌, ◌++◌, length}
use Rattle.std.proofs.Common.{get_or}
use Rattle.std.proofs.Common.{refl, sym, ap, ◌∙◌, subst, arith, append_assoc, length-append}
use Rattle.std.specs.List.{All}
use Rattle.std.proofs.Math.Seq.{get_or-append_seam}
use Rattle.ck_types.specs.TokenLimits.{Ranges}
use Rattle.ck_journal.specs.Answers.{IsLegal}
use Rattle.ck_journal.specs.Histories.{History, ◌◁◌}
use Rattle.ck_journal.specs.declared.calls.Call.{Call}
use Rattle.ck_token.proofs.DecisionLemmas.{free-call}
use Rattle.ck_journal.specs.MemoryNeeds.{takes_memory, may_run_out}
use Rattle.ck_journal.specs.TokenStates.{TokenState, entry_of, after, HasAnswered, IsAnswered}

-- this number of calls of the list is answered, and the others are left
pub record Answers (old : TokenState) (calls : List (ℕ × Call)) (count : ℕ) (left : List (ℕ × Call))
    (new : TokenState) : Type 0 where
  pub answered : List (ℕ × Call)
  pub parts : calls ≡ answered ++ left
  pub counted : length answered ≡ count
  pub has : HasAnswered old new answered
  pub room : old.spare ≤ new.spare + count

-- one more call
pub after-last : (limits : Ranges) (h : History) (calls : List (ℕ × Call)) (c : ℕ × Call) →
    after limits h (calls ++ c ∷ [])
    ≡ entry_of limits (after limits h calls) c.0 c.1 ◁ after limits h calls
after-last limits h [] c = refl
after-last limits h (d ∷ calls) c = after-last limits (entry_of limits h d.0 d.1 ◁ h) calls c

module _ (old : TokenState) (calls : List (ℕ × Call)) where
  pub Answers-none : (left : List (ℕ × Call)) → calls ≡ left → IsLegal old.limits old.history
      → Answers old calls 0 left old
  Answers-none left all legal = record {
    answered = [];
    parts = all;
    counted = refl;
    has = record { limits = refl; history = refl; legal = legal };
    room = omega arith;
  }

  pub Answers-more : (count : ℕ) (rest : List (ℕ × Call)) (c : ℕ × Call) (left : List (ℕ × Call))
      (token new : TokenState) (reply : _)
      → left ≡ c ∷ rest → Answers old calls count left token
      → IsAnswered token new c.0 c.1 reply
      → IsLegal new.limits new.history
      → token.spare ≤ new.spare + 1 → Answers old calls (count + 1) rest new
  Answers-more count rest c left token new reply l a step legal room = record {
    answered = a.answered ++ c ∷ [];
    parts = a.parts ∙ ap (λ r. a.answered ++ r) l ∙ sym (append_assoc a.answered (c ∷ []) rest);
    counted = length-append a.answered (c ∷ []) ∙ ap (λ n. n + 1) a.counted;
    has = record {
      limits = step.limits ∙ a.has.limits;
      history = step.entered ∙ rw (a.has.limits, a.has.history)
          (sym (after-last old.limits old.history a.answered c));
      legal = legal;
    };
    room = let before = a.room in omega arith;
  }

  -- where the journal has room for all calls and none of them takes other memory, the next one has
  -- room and takes none
  pub Answers-free : (count : ℕ) (rest : List (ℕ × Call)) (c : ℕ × Call) (left : List (ℕ × Call))
      (token : TokenState)
      → left ≡ c ∷ rest → Answers old calls count left token → length calls ≤ old.spare
      → All (λ (c : ℕ × Call). takes_memory c.1 ≡ false) calls
      → (0 < token.spare) × (may_run_out token.limits token.history c.1 ≡ false)
  Answers-free count rest c left token l a enough free =
      let parts : calls ≡ a.answered ++ (c ∷ rest) = a.parts ∙ ap (λ r. a.answered ++ r) l in
      let sum : length calls ≡ length a.answered + suc (length rest) =
      ap length parts ∙ length-append a.answered (c ∷ rest) in
      let counted = a.counted in
      let room = a.room in (
        omega arith,
        free-call token.limits token.history c.1
            (subst (λ (d : ℕ × Call). takes_memory d.1 ≡ false)
            (ap (λ cs. get_or cs (length a.answered) c) parts
            ∙ get_or-append_seam a.answered c rest c)
            (free (length a.answered) c (omega arith))),
      )

  -- each answered call took room for one entry at the most
  pub Answers-room : (count : ℕ) (left : List (ℕ × Call)) (token : TokenState)
      → Answers old calls count left token → old.spare ≤ token.spare + length calls
  Answers-room count left token a =
      let sum : length calls ≡ length a.answered + length left =
      ap length a.parts ∙ length-append a.answered left in
      let counted = a.counted in
      let room = a.room in
      omega arith
