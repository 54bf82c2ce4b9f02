-- Where playing stands between two lines. This mirrors the code: no text is defined by it.
use Rattle.std.specs.Prelude.{◌≡◌, ◌<◌, ◌≤◌, ℕ, suc, Bool, true, false, List, [], ◌∷◌, ◌++◌, Ok}
use Rattle.std.specs.Prelude.{Option, Some, Err, length, min}
use Rattle.ck_types.specs.TokenLimits.{Ranges}
use Rattle.ck_journal.specs.Answers.{answer}
use Rattle.ck_journal.specs.declared.calls.Call.{Call}
use Rattle.ck_script.specs.Lines.{lines_in, longest_line}
use Rattle.ck_script.specs.Replies.{reply_text}
use Rattle.ck_script.specs.declared.lines.Line.{Line}
use Rattle.ck_script.specs.declared.lines.Line.TheVariants as line
use Rattle.ck_journal.specs.TokenStates.{TokenState}
use Rattle.ck_plays.specs.Devices.{Reading, Writing, wrote, failed_write, IsCount}
use Rattle.ck_plays.specs.Plays.{AreGood, called, history_after, output_of, Outcome, failed_writes}
use Rattle.ck_plays.specs.Plays.{is_over, after_reads, IsPlayed}
use Rattle.ck_plays.specs.declared.faults.PlayFault.{PlayFault}
use Rattle.ck_plays.specs.declared.faults.PlayFault.TheVariants as fault

-- a token that is played a script: the token, the beginning of the line that has no end yet, and
-- the number of that line
pub record PlayerState : Type 0 where
  pub token : TokenState
  pub open_line : List ℕ
  pub number : ℕ

-- a write failed with a beginning of these bytes written
pub record WriteFailed (is_written : Writing → Type 0) (w : Writing) (bytes : List ℕ) : Type 0 where
  pub part : List ℕ
  pub rest : List ℕ
  pub parts : bytes ≡ part ++ rest
  pub writer : is_written (failed_write (wrote w part))

-- a line of these bytes and number isn't taken: it is too long, or there is no memory for it
abbrev pub IsLineRefused : ℕ → List ℕ → PlayFault → Type 0
IsLineRefused number bytes (fault.Line n reason) = (n ≡ number) × (longest_line < length bytes)
IsLineRefused number bytes fault.Read = ⊥
IsLineRefused number bytes fault.Write = ⊥
IsLineRefused number bytes fault.Memory = length bytes ≤ longest_line
IsLineRefused number bytes fault.Turns = ⊥

-- these bytes weren't written whole: the writer failed behind a beginning of them, or there was no
-- memory and none is written
abbrev pub IsUnwritten : (Writing → Type 0) → Writing → List ℕ → PlayFault → Type 0
IsUnwritten is_written w bytes (fault.Line n reason) = ⊥
IsUnwritten is_written w bytes fault.Read = ⊥
IsUnwritten is_written w bytes fault.Write = WriteFailed is_written w bytes
IsUnwritten is_written w bytes fault.Memory = is_written w
IsUnwritten is_written w bytes fault.Turns = ⊥

-- a call is answered and its reply is written
pub record IsReplied (old new : TokenState) (caller : ℕ) (call : Call)
    (was_written is_written : Writing → Type 0) : Type 0 where
  pub same_limits : new.limits ≡ old.limits
  pub entered : new.history ≡ called old.limits old.history caller call
  pub writer : (w : Writing) → was_written w
      → is_written (wrote w (reply_text (answer old.limits old.history call)))

-- these lines are answered, and no others
pub record HasPlayed (limits : Ranges) (written : Writing) (lines : List (List ℕ))
    (token : TokenState) (number : ℕ) (is_written : Writing → Type 0) : Type 0 where
  pub same_limits : token.limits ≡ limits
  pub history : token.history ≡ history_after limits lines
  pub next_number : IsCount number (suc (length lines))
  pub good : AreGood lines
  pub writer : is_written (wrote written (output_of limits lines))

-- the number of the next line
abbrev pub next_number : ℕ → ℕ
next_number number = min (suc number) 18446744073709551615

-- a fault of a line, and not of the reader
abbrev pub IsOfLine : PlayFault → Type 0
IsOfLine (fault.Line n reason) = Unit {0}
IsOfLine fault.Read = ⊥
IsOfLine fault.Write = Unit {0}
IsOfLine fault.Memory = Unit {0}
IsOfLine fault.Turns = ⊥

-- playing has ended with a fault of a line; at least the first `earlier` lines are answered
pub record IsStopped (limits : Ranges) (written : Writing) (lines : List (List ℕ)) (ended : Bool)
    (earlier : ℕ) (is_written : Writing → Type 0) (f : PlayFault) : Type 0 where
  pub of_line : IsOfLine f
  pub output : List ℕ
  pub writer : is_written (record {
    is_known = written.is_known;
    bytes = written.bytes ++ output;
    failures = failed_writes written.failures (Err f);
  })
  pub outcome : Outcome limits lines ended earlier output (Err f)

-- the line that has no end yet, before further bytes
abbrev pub onto : List ℕ → List (List ℕ) → List (List ℕ)
onto open_line [] = open_line ∷ []
onto open_line (l ∷ lines) = (open_line ++ l) ∷ lines

-- of all lines these come later, of which the first goes on with the open line; those before are
-- answered, and are at least `earlier` lines
pub record IsAnsweredSoFar (limits : Ranges) (written : Writing) (lines later : List (List ℕ))
    (earlier : ℕ) (player : PlayerState) (is_written : Writing → Type 0) : Type 0 where
  pub before : List (List ℕ)
  pub parts : lines ≡ before ++ onto player.open_line later
  pub on_time : earlier ≤ length before
  pub answered : HasPlayed limits written before player.token player.number is_written

-- what a reader gave in this many reads is answered as far as its lines are over
pub record IsReading (limits : Ranges) (read : Reading) (written : Writing) (reads : ℕ)
    (player : PlayerState) (is_read : Reading → Type 0) (is_written : Writing → Type 0)
    : Type 0 where
  pub script : List ℕ
  pub earlier : List ℕ
  pub so_far : IsAnsweredSoFar limits written (lines_in script) [] 0 player is_written
  pub reader : is_read (after_reads read script earlier reads read.ends read.failures)

-- ---- what the steps of playing do, whatever was answered before them

-- this line is answered
abbrev pub AnswersLine : List ℕ → TokenState → ℕ → (Writing → Type 0) → TokenState → ℕ
    → (Writing → Type 0) → Type 0
AnswersLine l old number was_written new next is_written =
    (limits : Ranges) (written : Writing) (lines : List (List ℕ))
    → HasPlayed limits written lines old number was_written
    → HasPlayed limits written (lines ++ l ∷ []) new next is_written

-- the line means a call
abbrev pub IsCall : Option Line → Type 0
IsCall (Some (line.Called caller call)) = Unit {0}
IsCall others = ⊥

-- playing ends with this fault at this line, which is over
abbrev pub StopsAtLine : List ℕ → TokenState → ℕ → (Writing → Type 0) → (Writing → Type 0)
    → PlayFault → Type 0
StopsAtLine l old number was_written is_written f =
    (limits : Ranges) (written : Writing) (lines later : List (List ℕ)) (ended : Bool)
    → is_over later ended ≡ true
    → HasPlayed limits written lines old number was_written
    → IsStopped limits written (lines ++ l ∷ later) ended (length lines) is_written f

-- the lines that end in these further bytes are answered
abbrev pub AnswersChunk : List ℕ → PlayerState → (Writing → Type 0) → PlayerState
    → (Writing → Type 0) → Type 0
AnswersChunk chunk old was_written new is_written =
    (limits : Ranges) (written : Writing) (lines : List (List ℕ))
    → HasPlayed limits written lines old.token old.number was_written
    → IsAnsweredSoFar limits written (lines ++ onto old.open_line (lines_in chunk)) []
    (length lines) new is_written

-- playing ends with this fault in these further bytes
abbrev pub StopsInChunk : List ℕ → PlayerState → (Writing → Type 0) → (Writing → Type 0) → PlayFault
    → Type 0
StopsInChunk chunk old was_written is_written f =
    (limits : Ranges) (written : Writing) (lines : List (List ℕ))
    → HasPlayed limits written lines old.token old.number was_written
    → IsStopped limits written (lines ++ onto old.open_line (lines_in chunk)) false
    (length lines) is_written f

-- after one more read playing goes on, or the end was found
abbrev pub IsReadOn : Bool → Ranges → ℕ → Reading → Writing → ℕ → PlayerState → (Reading → Type 0)
    → (Writing → Type 0) → Type 0
IsReadOn true limits most read written reads player is_read is_written =
    IsPlayed limits most read written is_read is_written (Ok tt)
IsReadOn false limits most read written reads player is_read is_written =
    IsReading limits read written (suc reads) player is_read is_written

-- one more read of those allowed is made, and what it gave is answered
abbrev pub AnswersRead : PlayerState → (Reading → Type 0) → (Writing → Type 0) → PlayerState
    → (Reading → Type 0) → (Writing → Type 0) → Bool → Type 0
AnswersRead old was_read was_written new is_read is_written ended =
    (limits : Ranges) (read : Reading) (written : Writing) (reads most : ℕ) → reads < most
    → IsReading limits read written reads old was_read was_written
    → IsReadOn ended limits most read written reads new is_read is_written

-- one more read of those allowed is made, and playing ends with this fault
abbrev pub StopsInRead : PlayerState → (Reading → Type 0) → (Writing → Type 0) → (Reading → Type 0)
    → (Writing → Type 0) → PlayFault → Type 0
StopsInRead old was_read was_written is_read is_written f =
    (limits : Ranges) (read : Reading) (written : Writing) (reads most : ℕ) → reads < most
    → IsReading limits read written reads old was_read was_written
    → IsPlayed limits most read written is_read is_written (Err f)
