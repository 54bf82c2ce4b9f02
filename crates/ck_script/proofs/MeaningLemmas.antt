-- What the words of a line mean where their call takes memory
use Rattle.std.proofs.Common.{◌≡◌, ℕ, true, List, ◌∷◌, Option, Some, None}
use Rattle.std.specs.Prelude.{◌||◌, IsSomeAnd}
use Rattle.ck_journal.specs.Calls.{brings_list}
use Rattle.ck_journal.specs.declared.calls.Call.{Call}
use Rattle.ck_script.specs.Arguments.{both}
use Rattle.ck_script.specs.Calls.{call_in, has_pin}
use Rattle.ck_script.specs.Lines.{caller_in, words_meaning, ParsingTakesMemory}
use Rattle.ck_script.specs.declared.lines.Line.TheVariants as line

both_take_memory : (caller : Option ℕ) (made : Option Call) (number : ℕ) → caller ≡ Some number
    → IsSomeAnd made (λ call. has_pin call || brings_list call ≡ true)
    → ParsingTakesMemory (both line.Called caller made)
both_take_memory None made number e takes = cc
both_take_memory (Some n) None number e takes = takes
both_take_memory (Some n) (Some call) number e takes = takes

pub words_take_memory : (words : List (List ℕ)) (caller name : List ℕ)
    (arguments : List (List ℕ)) (number : ℕ)
    → words ≡ caller ∷ name ∷ arguments → caller_in caller ≡ Some number
    → IsSomeAnd (call_in name arguments) (λ call. has_pin call || brings_list call ≡ true)
    → ParsingTakesMemory (words_meaning words)
words_take_memory words caller name arguments number e is takes =
    rw e (both_take_memory (caller_in caller) (call_in name arguments) number is takes)
