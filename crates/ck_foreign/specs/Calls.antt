-- What a call that C asks for does to the token, to the reply and to the text beside it
use Rattle.std.specs.Prelude.{◌≡◌, ◌≤◌, ◌+◌, ℕ, ◌⊎◌, List, Some, None}
use Rattle.ck_journal.specs.Answers.{IsLegal}
use Rattle.ck_journal.specs.declared.calls.Call.{Call}
use Rattle.ck_journal.specs.TokenStates.{IsAnswered, IsUnchanged}
use Rattle.ck_script.specs.Lines.{meaning}
use Rattle.ck_script.specs.Replies.{reply_line}
use Rattle.ck_script.specs.declared.lines.Line.TheVariants as line
use Rattle.ck_foreign.specs.Outcomes.{outcome_number}
use Rattle.ck_foreign.specs.declared.modules.Module.{Module}
use Rattle.ck_foreign.specs.declared.outcomes.Outcome.{Outcome}
use Rattle.ck_foreign.specs.declared.outcomes.Outcome.TheVariants as outcome

-- nothing that C can see has changed, and the journal has no less room
pub record IsSame (old new : Module) : Type 0 where
  pub token : IsUnchanged old.token new.token
  pub room : old.token.spare ≤ new.token.spare
  pub reply : new.reply ≡ old.reply
  pub text : new.text ≡ old.text

-- the token has answered the call, and has entered it in its journal, whose history is legal; that
-- took room for one entry at the most; the reply is kept
pub record IsKept (old new : Module) (caller : ℕ) (c : Call) : Type 0 where
  pub answered : IsAnswered old.token new.token caller c new.reply
  pub legal : IsLegal new.token.limits new.token.history
  pub room : old.token.spare ≤ new.token.spare + 1
  pub text : new.text ≡ old.text

-- the call was answered, or there was no memory for it
abbrev pub IsCalled : ℕ → Call → Outcome → Module → Module → Type 0
IsCalled caller c outcome.Answered old new = IsKept old new caller c
IsCalled caller c outcome.NoCall old new = ⊥
IsCalled caller c outcome.NoMemory old new = IsSame old new

-- the line means no call
abbrev pub MeansNoCall : List ℕ → Type 0
MeansNoCall bytes = (meaning bytes ≡ None) ⊎ (meaning bytes ≡ Some line.Skipped)

-- the call that the line means was answered, or there was no memory for it; or the line means none
abbrev pub IsLine : List ℕ → Outcome → Module → Module → Type 0
IsLine bytes outcome.Answered old new =
    (caller : ℕ) × (c : Call) × (meaning bytes ≡ Some (line.Called caller c))
    × IsKept old new caller c
IsLine bytes outcome.NoCall old new =
    MeansNoCall bytes × (new ≡ old)
IsLine bytes outcome.NoMemory old new =
    (caller : ℕ) × (c : Call) × (meaning bytes ≡ Some (line.Called caller c)) × IsSame old new

-- the text of the reply was made; or there was no memory for it, and nothing is said of the text
abbrev pub IsText : Outcome → Module → Module → Type 0
IsText outcome.Answered old new =
    (new.token ≡ old.token) × (new.reply ≡ old.reply) × (new.text.items ≡ reply_line new.reply)
IsText outcome.NoCall old new = ⊥
IsText outcome.NoMemory old new = (new.token ≡ old.token) × (new.reply ≡ old.reply)

-- ---- the same by the number that C is told

abbrev pub IsCalledBy : ℕ → Call → ℕ → Module → Module → Type 0
IsCalledBy caller c number old new =
    (s : Outcome) × (number ≡ outcome_number s) × IsCalled caller c s old new

abbrev pub IsLineOf : List ℕ → ℕ → Module → Module → Type 0
IsLineOf bytes number old new =
    (s : Outcome) × (number ≡ outcome_number s) × IsLine bytes s old new

abbrev pub IsTextOf : ℕ → Module → Module → Type 0
IsTextOf number old new = (s : Outcome) × (number ≡ outcome_number s) × IsText s old new
