-- The lines of a script, and what one of them means. A line's bytes stand here without its end.
use Rattle.std.specs.Prelude.{◌≡◌, ℕ, Bool, true, List, ◌∷◌, length, slice_index}
use Rattle.std.specs.Prelude.{Option, Some, None, option_and_then}
use Rattle.std.specs.Prelude.{◌==◌, ◌&&◌, ◌||◌, nat_le, nat_lt, if◌then◌else◌}
use Rattle.std.specs.List.{slice_split}
use Rattle.ck_journal.specs.Calls.{brings_list}
use Rattle.ck_script.specs.Splits.{words_of}
use Rattle.ck_script.specs.Arguments.{number_in, both}
use Rattle.ck_script.specs.Calls.{call_in, has_pin}
use Rattle.ck_script.specs.declared.lines.Line.{Line}
use Rattle.ck_script.specs.declared.lines.Line.TheVariants as line

-- the byte that ends a line
abbrev pub line_end : ℕ
line_end = 10

-- the byte between two words of a line
abbrev pub space : ℕ
space = 32

-- the byte with which a comment begins
abbrev pub comment : ℕ
comment = 35

-- the most bytes of a line
abbrev pub longest_line : ℕ
longest_line = 4194304

-- the lines of these bytes; the last is the one that has no end yet, and is empty where the bytes
-- end with a line end
abbrev pub lines_in : List ℕ → List (List ℕ)
lines_in bytes = slice_split (λ b. b == line_end) bytes

-- callers are numbered 1 to 8
abbrev pub caller_of : ℕ → Option ℕ
caller_of number = if nat_le 1 number && nat_le number 8 then Some number else None

abbrev pub caller_in : List ℕ → Option ℕ
caller_in text = option_and_then caller_of (number_in text)

-- words: the caller, the call's name and its arguments
abbrev pub words_meaning : List (List ℕ) → Option Line
words_meaning (caller ∷ name ∷ arguments) =
    both line.Called (caller_in caller) (call_in name arguments)
words_meaning others = None

-- an empty line, and one that begins as a comment
abbrev pub is_skipped : List ℕ → Bool
is_skipped bytes = length bytes == 0 || slice_index bytes 0 == comment

-- what a line means, and None for a bad one; words stand between single spaces
abbrev pub meaning : List ℕ → Option Line
meaning bytes =
    if nat_lt longest_line (length bytes) then None
    else if is_skipped bytes then Some line.Skipped
    else words_meaning (words_of space bytes)

-- to read the line may take memory: it means a call with a PIN or with a list
abbrev pub ParsingTakesMemory : Option Line → Type 0
ParsingTakesMemory (Some (line.Called caller made)) = has_pin made || brings_list made ≡ true
ParsingTakesMemory others = ⊥
