-- What an audit of a history finds
use Rattle.std.specs.Prelude.{◌≡◌, ◌≢◌, ℕ, List}
use Rattle.ck_types.specs.TokenLimits.{Ranges}
use Rattle.ck_journal.specs.Answers.{answer, IsLegal}
use Rattle.ck_journal.specs.Histories.{History, ◌◁◌, followed_by, entry_count}
use Rattle.ck_journal.specs.declared.calls.Entry.{Entry}
use Rattle.ck_audit.specs.declared.audits.Verdict.{Verdict}
use Rattle.ck_audit.specs.declared.audits.Verdict.TheVariants as verdict

-- the entry of this number, from 1, is the first whose reply isn't the answer at the front just
-- before it: that front is legal
pub record IsFirstWrong (limits : Ranges) (h : History) (number : ℕ) : Type 0 where
  pub front : History
  pub entry : Entry
  pub later : List Entry
  pub parts : h ≡ followed_by (entry ◁ front) later
  pub is_number : number ≡ entry_count (entry ◁ front)
  pub legal : IsLegal limits front
  pub wrong : entry.reply ≢ answer limits front entry.call

-- the verdict is right for this history
abbrev pub IsVerdict : Ranges → History → Verdict → Type 0
IsVerdict limits h verdict.Legal = IsLegal limits h
IsVerdict limits h (verdict.Wrong number) = IsFirstWrong limits h number
