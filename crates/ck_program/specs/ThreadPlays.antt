-- Scripts of the callers 1 to `callers` that are played in threads
use Rattle.std.specs.Prelude.{◌≡◌, ◌≤◌, ◌++◌, ℕ, List, Result, Ok, Err, codes, decimal}
use Rattle.ck_types.specs.TokenLimits.{Ranges}
use Rattle.ck_journal.specs.Answers.{IsLegal}
use Rattle.ck_journal.specs.Bases.{empty_base}
use Rattle.ck_journal.specs.Callers.{AreCallers}
use Rattle.ck_journal.specs.Fronts.{IsFront}
use Rattle.ck_journal.specs.Histories.{History, start, entry_count}
use Rattle.ck_journal.specs.declared.calls.Call.{Call}
use Rattle.ck_plays.specs.CallerScripts.{HasGoodScript, HasBadScript}
use Rattle.ck_plays.specs.Devices.{Reading, Writing, wrote}
use Rattle.ck_plays.specs.Players.{WriteFailed}
use Rattle.ck_plays.specs.Readings.{IsUnread}
use Rattle.ck_plays.specs.declared.faults.PlayFault.TheVariants as play
use Rattle.ck_program.specs.CallerCalls.{HasEntriesOf}
use Rattle.ck_program.specs.declared.faults.ProgramFault.{ProgramFault}
use Rattle.ck_program.specs.declared.faults.ProgramFault.TheVariants as fault

-- the text of the number of a journal's entries, and of an audit that finds it legal
abbrev pub summary_text : ℕ → List ℕ
summary_text entries = codes "entries " ++ (decimal entries ++ codes "\naudit ok\n")

-- this is the text of the legal journal of a new token, in which each of the callers 1 to `callers`
-- has made its calls
pub record IsSummary (limits : Ranges) (callers : ℕ) (calls : List (ℕ × Call)) (text : List ℕ)
    : Type 0 where
  pub history : History
  pub new : IsFront (start empty_base) history
  pub legal : IsLegal limits history
  pub only : AreCallers callers history
  pub all : (number : ℕ) → 1 ≤ number → number ≤ callers → HasEntriesOf calls number history
  pub is_text : text ≡ summary_text (entry_count history)

-- the whole script was read, and its calls were made; this text sums them up
pub record WasPlayed (limits : Ranges) (callers most : ℕ) (read : Reading)
    (is_read : Reading → Type 0) (text : List ℕ) : Type 0 where
  pub calls : List (ℕ × Call)
  pub good : HasGoodScript callers most read is_read calls
  pub summary : IsSummary limits callers calls text

-- what was read and written where a script is played in threads, by how that ends: a thread is
-- lacking only where the whole script was read and is good
abbrev pub IsPlayedInThreads : Ranges → ℕ → ℕ → Reading → Writing → (Reading → Type 0)
    → (Writing → Type 0) → Result (Unit {0}) ProgramFault → Type 0
IsPlayedInThreads limits callers most read written is_read is_written (Ok u) =
    (text : List ℕ) × WasPlayed limits callers most read is_read text
    × is_written (wrote written text)
IsPlayedInThreads limits callers most read written is_read is_written
    (Err (fault.Play (play.Line number reason))) =
    HasBadScript callers most read is_read number × is_written written
IsPlayedInThreads limits callers most read written is_read is_written
    (Err (fault.Play play.Read)) =
    IsUnread most read is_read play.Read × is_written written
IsPlayedInThreads limits callers most read written is_read is_written
    (Err (fault.Play play.Turns)) =
    IsUnread most read is_read play.Turns × is_written written
IsPlayedInThreads limits callers most read written is_read is_written
    (Err (fault.Play play.Memory)) =
    is_written written
IsPlayedInThreads limits callers most read written is_read is_written
    (Err (fault.Play play.Write)) =
    (text : List ℕ) × WasPlayed limits callers most read is_read text
    × WriteFailed is_written written text
IsPlayedInThreads limits callers most read written is_read is_written (Err fault.Thread) =
    ((calls : List (ℕ × Call)) × HasGoodScript callers most read is_read calls)
    × is_written written
