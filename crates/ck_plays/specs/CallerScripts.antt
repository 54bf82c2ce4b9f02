-- Scripts that are read whole, for the callers 1 to `callers`
use Rattle.std.specs.Prelude.{◌≡◌, ◌&&◌, ℕ, suc, Bool, true, false, not, nat_le, List, [], ◌∷◌}
use Rattle.std.specs.Prelude.{◌++◌, Option, Some, None, Ok, length}
use Rattle.ck_journal.specs.declared.calls.Call.{Call}
use Rattle.ck_script.specs.Lines.{lines_in, meaning}
use Rattle.ck_script.specs.declared.lines.Line.{Line}
use Rattle.ck_script.specs.declared.lines.Line.TheVariants as line
use Rattle.ck_plays.specs.Devices.{Reading, IsCount}
use Rattle.ck_plays.specs.Plays.{calls_in}
use Rattle.ck_plays.specs.Readings.{IsReadWhole, IsUnread}
use Rattle.ck_plays.specs.declared.faults.PlayFault.{PlayFault}
use Rattle.ck_plays.specs.declared.faults.PlayFault.TheVariants as fault

-- ---- the lines of the callers

-- a line is bad where it means nothing, or its caller is none of 1 to `callers`
abbrev pub is_bad_for : ℕ → Option Line → Bool
is_bad_for callers None = true
is_bad_for callers (Some line.Skipped) = false
is_bad_for callers (Some (line.Called caller call)) =
    not (nat_le 1 caller && nat_le caller callers)

-- no line is bad
abbrev pub AreGoodFor : ℕ → List (List ℕ) → Type 0
AreGoodFor callers [] = Unit {0}
AreGoodFor callers (l ∷ lines) =
    (is_bad_for callers (meaning l) ≡ false) × AreGoodFor callers lines

-- the line of this number is the first bad one
pub record IsFirstBadFor (callers : ℕ) (lines : List (List ℕ)) (number : ℕ) : Type 0 where
  pub before : List (List ℕ)
  pub bad : List ℕ
  pub later : List (List ℕ)
  pub parts : lines ≡ before ++ bad ∷ later
  pub good : AreGoodFor callers before
  pub refused : is_bad_for callers (meaning bad) ≡ true
  pub bad_number : IsCount number (suc (length before))

-- no line is bad, and these are their calls
pub record AreCallsOf (callers : ℕ) (lines : List (List ℕ)) (calls : List (ℕ × Call)) : Type 0 where
  pub good : AreGoodFor callers lines
  pub all : calls ≡ calls_in lines

-- why the calls of lines aren't had: a line is bad, or there is no memory
abbrev pub IsRefusedFor : ℕ → List (List ℕ) → PlayFault → Type 0
IsRefusedFor callers lines (fault.Line number reason) = IsFirstBadFor callers lines number
IsRefusedFor callers lines fault.Memory = Unit {0}
IsRefusedFor callers lines other = ⊥

-- why the line of this number isn't taken: it is bad, or there is no memory
abbrev pub IsRefusedLine : ℕ → Option Line → ℕ → PlayFault → Type 0
IsRefusedLine callers m number (fault.Line n reason) =
    (n ≡ number) × (is_bad_for callers m ≡ true)
IsRefusedLine callers m number fault.Memory = Unit {0}
IsRefusedLine callers m number other = ⊥

-- ---- the whole script

-- the whole script was read, none of its lines is bad, and these are their calls
pub record HasGoodScript (callers most : ℕ) (read : Reading) (is_read : Reading → Type 0)
    (calls : List (ℕ × Call)) : Type 0 where
  pub script : List ℕ
  pub whole : IsReadWhole most read is_read script (Ok tt)
  pub lines : AreCallsOf callers (lines_in script) calls

-- the whole script was read, and this is its first bad line
pub record HasBadScript (callers most : ℕ) (read : Reading) (is_read : Reading → Type 0)
    (number : ℕ) : Type 0 where
  pub script : List ℕ
  pub whole : IsReadWhole most read is_read script (Ok tt)
  pub bad : IsFirstBadFor callers (lines_in script) number

-- why there are no calls: reading stopped, or a line is bad, or there is no memory, of which
-- nothing more is said
abbrev pub HasNoCalls : ℕ → ℕ → Reading → (Reading → Type 0) → PlayFault → Type 0
HasNoCalls callers most read is_read (fault.Line number reason) =
    HasBadScript callers most read is_read number
HasNoCalls callers most read is_read fault.Memory = Unit {0}
HasNoCalls callers most read is_read other = IsUnread most read is_read other
