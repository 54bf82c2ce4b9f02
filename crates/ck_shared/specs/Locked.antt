-- What is known of a token whenever its lock is free
use Rattle.std.specs.Prelude.{◌≡◌, ℕ, List}
use Rattle.ck_types.specs.TokenLimits.{Ranges}
use Rattle.ck_journal.specs.Callers.{call_counts, AreCallers}
use Rattle.ck_journal.specs.Histories.{History}
use Rattle.ck_callers.specs.KnownHistories.{KnownState, Covers}
use Rattle.ck_journal.specs.TokenStates.{TokenState}

-- the token has these limits and no other callers; the books and what is known are of its history,
-- and what was published has the same board
pub record IsTied (range : Ranges) (most : ℕ) (token : TokenState) (counts : List ℕ)
    (known : KnownState) (shown : History) : Type 0 where
  pub limits : token.limits ≡ range
  pub callers : AreCallers most token.history
  pub books : counts ≡ call_counts token.history
  pub history : known.history ≡ token.history
  pub published : Covers known shown
