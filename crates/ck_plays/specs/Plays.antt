-- What playing a script writes, and how it ends
use Rattle.std.specs.Prelude.{◌≡◌, ◌⊎◌, ◌<◌, ◌≤◌, ◌+◌, ◌^◌, ℕ, zero, suc, Bool, true, false, List}
use Rattle.std.specs.Prelude.{[], ◌∷◌, ◌++◌, Option, Some, None, Result, Ok, Err, length}
use Rattle.ck_types.specs.TokenLimits.{Ranges}
use Rattle.ck_journal.specs.Bases.{empty_base}
use Rattle.ck_journal.specs.Histories.{History, start, ◌◁◌}
use Rattle.ck_journal.specs.declared.calls.Call.{Call}
use Rattle.ck_script.specs.Lines.{lines_in, longest_line, meaning}
use Rattle.ck_script.specs.Replies.{reply_text}
use Rattle.ck_script.specs.declared.lines.Line.{Line}
use Rattle.ck_script.specs.declared.lines.Line.TheVariants as line
use Rattle.ck_journal.specs.TokenStates.{after, entry_of}
use Rattle.ck_plays.specs.Devices.{Reading, Writing, IsCount}
use Rattle.ck_plays.specs.declared.faults.PlayFault.{PlayFault}
use Rattle.ck_plays.specs.declared.faults.PlayFault.TheVariants as fault

-- ---- lines and their calls

-- a caller and its call, before other calls
abbrev pub with_call : Option Line → List (ℕ × Call) → List (ℕ × Call)
with_call (Some (line.Called caller call)) calls = (caller, call) ∷ calls
with_call others calls = calls

-- the calls of lines, each with its caller
abbrev pub calls_in : List (List ℕ) → List (ℕ × Call)
calls_in [] = []
calls_in (l ∷ lines) = with_call (meaning l) (calls_in lines)

abbrev pub is_bad : Option Line → Bool
is_bad None = true
is_bad (Some line) = false

-- no line is bad
abbrev pub AreGood : List (List ℕ) → Type 0
AreGood [] = Unit {0}
AreGood (l ∷ lines) = (is_bad (meaning l) ≡ false) × AreGood lines

-- how many lines have their ends among these bytes
abbrev pub ended_lines : List (List ℕ) → ℕ
ended_lines [] = zero
ended_lines (l ∷ later) = length later

-- ---- the token and its replies

-- the history after one more call
abbrev pub called : Ranges → History → ℕ → Call → History
called limits h caller call = entry_of limits h caller call ◁ h

-- the history of a new token after the calls of these lines
abbrev pub history_after : Ranges → List (List ℕ) → History
history_after limits lines = after limits (start empty_base) (calls_in lines)

-- the texts of the replies of a history, the oldest first
abbrev pub replies_text : History → List ℕ
replies_text (start b) = []
replies_text (e ◁ h) = replies_text h ++ reply_text e.reply

-- the replies of a new token to the calls of these lines
abbrev pub output_of : Ranges → List (List ℕ) → List ℕ
output_of limits lines = replies_text (history_after limits lines)

-- ---- how playing ends: of the lines of what was read, whether the end was found, how many lines
-- had ended before the last read, and what was written

-- a line is over where another follows, or the end was found
abbrev pub is_over : List (List ℕ) → Bool → Bool
is_over [] ended = ended
is_over (l ∷ later) ended = true

-- all lines are answered
pub record AllAnswered (limits : Ranges) (lines : List (List ℕ)) (ended : Bool)
    (output : List ℕ) : Type 0 where
  pub end_found : ended ≡ true
  pub good : AreGood lines
  pub written : output ≡ output_of limits lines

-- the line of this number is the first bad one, and those before it are answered
pub record IsFirstBadLine (limits : Ranges) (lines : List (List ℕ)) (ended : Bool) (earlier : ℕ)
    (output : List ℕ) (number : ℕ) : Type 0 where
  pub before : List (List ℕ)
  pub bad : List ℕ
  pub later : List (List ℕ)
  pub parts : lines ≡ before ++ bad ∷ later
  pub good : AreGood before
  pub refused : is_bad (meaning bad) ≡ true
  pub bad_number : IsCount number (suc (length before))
  pub over : (is_over later ended ≡ true) ⊎ (longest_line < length bad)
  pub on_time : earlier ≤ length before
  pub written : output ≡ output_of limits before

-- all lines that are over are answered, where only further bytes or the end would end the last
pub record EndedLinesAnswered (limits : Ranges) (lines : List (List ℕ)) (ended : Bool)
    (output : List ℕ) : Type 0 where
  pub before : List (List ℕ)
  pub open_line : List ℕ
  pub no_end : ended ≡ false
  pub parts : lines ≡ before ++ open_line ∷ []
  pub good : AreGood before
  pub written : output ≡ output_of limits before

-- the lines before one of them are answered, which isn't too long
pub record LinesBeforeAnswered (limits : Ranges) (lines : List (List ℕ)) (earlier : ℕ)
    (output : List ℕ) : Type 0 where
  pub before : List (List ℕ)
  pub unanswered : List ℕ
  pub later : List (List ℕ)
  pub parts : lines ≡ before ++ unanswered ∷ later
  pub good : AreGood before
  pub short : length unanswered ≤ longest_line
  pub on_time : earlier ≤ length before
  pub written : output ≡ output_of limits before

-- the lines before one of them are answered, and a beginning of the reply to this one is written
pub record ReplyPartlyWritten (limits : Ranges) (lines : List (List ℕ)) (ended : Bool)
    (earlier : ℕ) (output : List ℕ) : Type 0 where
  pub before : List (List ℕ)
  pub cut : List ℕ
  pub later : List (List ℕ)
  pub part : List ℕ
  pub rest : List ℕ
  pub parts : lines ≡ before ++ cut ∷ later
  pub good : AreGood (before ++ cut ∷ [])
  pub over : is_over later ended ≡ true
  pub on_time : earlier ≤ length before
  pub written : output ≡ output_of limits before ++ part
  pub reply : output_of limits (before ++ cut ∷ []) ≡ output ++ rest

-- what the result of playing says of the lines and of what was written
abbrev pub Outcome : Ranges → List (List ℕ) → Bool → ℕ → List ℕ → Result (Unit {0}) PlayFault
    → Type 0
Outcome limits lines ended earlier output (Ok u) = AllAnswered limits lines ended output
Outcome limits lines ended earlier output (Err (fault.Line number reason)) =
    IsFirstBadLine limits lines ended earlier output number
Outcome limits lines ended earlier output (Err fault.Read) =
    EndedLinesAnswered limits lines ended output
Outcome limits lines ended earlier output (Err fault.Write) =
    ReplyPartlyWritten limits lines ended earlier output
Outcome limits lines ended earlier output (Err fault.Memory) =
    LinesBeforeAnswered limits lines earlier output
Outcome limits lines ended earlier output (Err fault.Turns) =
    EndedLinesAnswered limits lines ended output

-- ---- the devices

-- one more where the condition holds
abbrev pub one_if : Bool → ℕ → ℕ
one_if true n = suc n
one_if false n = n

abbrev pub failed_reads : ℕ → Result (Unit {0}) PlayFault → ℕ
failed_reads n (Err fault.Read) = suc n
failed_reads n other = n

abbrev pub failed_writes : ℕ → Result (Unit {0}) PlayFault → ℕ
failed_writes n (Err fault.Write) = suc n
failed_writes n other = n

-- the most reads of a script
abbrev pub most_reads : ℕ
most_reads = 2 ^ 32

-- how many reads were made of those allowed: all of them where the reader doesn't end
abbrev pub AreReads : ℕ → ℕ → Result (Unit {0}) PlayFault → Type 0
AreReads most reads (Err fault.Turns) = reads ≡ most
AreReads most reads other = reads ≤ most

-- the bytes that were read before the last read, where the reads before it gave these
abbrev pub earlier_bytes : Reading → ℕ → List ℕ → List ℕ
earlier_bytes r zero earlier = r.earlier
earlier_bytes r (suc reads) earlier = r.bytes ++ earlier

-- what was read after this many more reads, which gave these bytes; those before the last of them
-- gave the earlier ones
abbrev pub after_reads : Reading → List ℕ → List ℕ → ℕ → ℕ → ℕ → Reading
after_reads r script earlier reads ends failures = record {
  script = r.script;
  bytes = r.bytes ++ script;
  earlier = earlier_bytes r reads earlier;
  reads = r.reads + reads;
  ends = ends;
  failures = failures;
}

-- what was read and written by a call that began after this reading and this writing, and what it
-- answered: when it read last, all lines that had their ends were answered
pub record IsPlayed (limits : Ranges) (most : ℕ) (read : Reading) (written : Writing)
    (is_read : Reading → Type 0) (is_written : Writing → Type 0)
    (result : Result (Unit {0}) PlayFault) : Type 0 where
  pub script : List ℕ
  pub earlier : List ℕ
  pub ended : Bool
  pub reads : ℕ
  pub output : List ℕ
  pub reader : is_read (after_reads read script earlier reads
      (one_if ended read.ends) (failed_reads read.failures result))
  pub writer : is_written (record {
    is_known = written.is_known;
    bytes = written.bytes ++ output;
    failures = failed_writes written.failures result;
  })
  pub within : AreReads most reads result
  pub outcome : Outcome limits (lines_in script) ended
      (ended_lines (lines_in earlier)) output result
