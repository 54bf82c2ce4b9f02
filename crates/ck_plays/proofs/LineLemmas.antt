-- Lines that are read on, and lines that are too long
use Rattle.std.proofs.Common.{◌≡◌, ℕ, ◌<◌, ◌≤◌, Bool, true, false, cond, List, [], ◌∷◌, ◌++◌}
use Rattle.std.proofs.Common.{Option, Some, None, Err, length, refl, sym, ap, ◌∙◌, inl, inr, arith}
use Rattle.std.proofs.Common.{append_assoc}
use Rattle.std.proofs.lemmas.Bool.{ltb-true, ltb-false}
use Rattle.std.proofs.lemmas.Bool.Decides.{nat_tests}
use Rattle.std.specs.Prelude.{◌==◌, ◌⊎◌, nat_lt as ltb, Result}
use Rattle.std.specs.List.{onto_first}
use Rattle.ck_script.specs.Lines.{line_end, lines_in, longest_line, meaning, ParsingTakesMemory}
use Rattle.ck_script.specs.declared.line_errors.LineError.{LineError}
use Rattle.ck_script.specs.declared.line_errors.LineError.TheVariants as error
use Rattle.ck_script.specs.declared.line_errors.BadLine.{BadLine}
use Rattle.ck_script.specs.declared.line_errors.BadLine.TheVariants as bad_line
use Rattle.ck_script.specs.declared.lines.Line.{Line}
use Rattle.ck_script.specs.declared.lines.Line.TheVariants as line
use Rattle.ck_plays.specs.Plays.{is_over}
use Rattle.ck_plays.specs.Players.{onto, IsCall}

-- ---- lines that are too long

pub meaning-too_long : (bytes : List ℕ) → longest_line < length bytes → meaning bytes ≡ None
meaning-too_long bytes long =
    let is : ltb longest_line (length bytes) ≡ true = grind (arith, nat_tests) in rw is

some-short : (n : ℕ) (test : Bool) (rest : Option Line) (m : Line)
    → ltb longest_line n ≡ test → cond test None rest ≡ Some m → n ≤ longest_line
some-short n true rest m t e = cc
some-short n false rest m t e = ltb-false longest_line n t

-- a line that means something is no longer than a line may be
pub meaning-short : (bytes : List ℕ) (m : Line) → Some m ≡ meaning bytes
    → length bytes ≤ longest_line
meaning-short bytes m e = some-short (length bytes) _ _ m refl (sym e)

memory-short-by : (n : ℕ) (test : Bool) (r : Result Line LineError) → ltb longest_line n ≡ test
    → (longest_line < n → r ≡ Err (error.Bad bad_line.TooLong)) → r ≡ Err error.Memory
    → n ≤ longest_line
memory-short-by n true r t long e =
    let other : r ≡ Err (error.Bad bad_line.TooLong) = long (ltb-true longest_line n t) in cc
memory-short-by n false r t long e = ltb-false longest_line n t

-- a line that there is no memory for is none that is too long
pub memory-short : (n : ℕ) (r : Result Line LineError)
    → (longest_line < n → r ≡ Err (error.Bad bad_line.TooLong)) → r ≡ Err error.Memory
    → n ≤ longest_line
memory-short n r long e = memory-short-by n (ltb longest_line n) r refl long e

-- only a line that means a call takes memory when it is parsed
pub call-taking : (m : Option Line) → ParsingTakesMemory m → IsCall m
call-taking None taking = taking
call-taking (Some line.Skipped) taking = taking
call-taking (Some (line.Called caller made)) taking = tt

-- a line that is bad means nothing
pub none-of_bad : (m : Option Line) (e : LineError) (reason : BadLine) → e ≡ error.Bad reason
    → (e ≡ error.Memory) ⊎ (m ≡ None) → m ≡ None
none-of_bad m e reason is (inl memory) = cc
none-of_bad m e reason is (inr none) = none

-- ---- reading on

-- lines, and further lines of which the first goes on with the last of these
abbrev glue : List (List ℕ) → List (List ℕ) → List (List ℕ)
glue [] more = more
glue (l ∷ []) more = onto l more
glue (l ∷ m ∷ lines) more = l ∷ glue (m ∷ lines) more

-- a list of lines is never empty
record HasFirst (lines : List (List ℕ)) : Type 0 where
  first : List ℕ
  rest : List (List ℕ)
  parts : lines ≡ first ∷ rest

has_first-step : (x : ℕ) (test : Bool) (lines : List (List ℕ))
    → HasFirst (cond test ([] ∷ lines) (onto_first x lines))
has_first-step x true lines = record { first = []; rest = lines; parts = refl }
has_first-step x false [] = record { first = x ∷ []; rest = []; parts = refl }
has_first-step x false (l ∷ lines) = record { first = x ∷ l; rest = lines; parts = refl }

has_first : (xs : List ℕ) → HasFirst (lines_in xs)
has_first [] = record { first = []; rest = []; parts = refl }
has_first (x ∷ xs) = has_first-step x (x == line_end) (lines_in xs)

onto-empty : (lines : List (List ℕ)) → HasFirst lines → lines ≡ onto [] lines
onto-empty [] h = cc h.parts
onto-empty (l ∷ lines) h = refl

glue-ended : (lines more : List (List ℕ)) → HasFirst lines
    → [] ∷ glue lines more ≡ glue ([] ∷ lines) more
glue-ended [] more h = cc h.parts
glue-ended (l ∷ lines) more h = refl

glue-byte : (x : ℕ) (lines more : List (List ℕ)) → HasFirst lines
    → onto_first x (glue lines more) ≡ glue (onto_first x lines) more
glue-byte x [] [] h = refl
glue-byte x [] (m ∷ more) h = refl
glue-byte x (l ∷ []) [] h = refl
glue-byte x (l ∷ []) (m ∷ more) h = refl
glue-byte x (l ∷ k ∷ lines) more h = refl

glue-step : (x : ℕ) (test : Bool) (lines more : List (List ℕ)) → HasFirst lines
    → cond test ([] ∷ glue lines more) (onto_first x (glue lines more))
    ≡ glue (cond test ([] ∷ lines) (onto_first x lines)) more
glue-step x true lines more h = glue-ended lines more h
glue-step x false lines more h = glue-byte x lines more h

lines_in-append : (xs ys : List ℕ) → lines_in (xs ++ ys) ≡ glue (lines_in xs) (lines_in ys)
lines_in-append [] ys = onto-empty (lines_in ys) (has_first ys)
lines_in-append (x ∷ xs) ys =
    ap (λ lines. cond (x == line_end) ([] ∷ lines) (onto_first x lines)) (lines_in-append xs ys)
    ∙ glue-step x (x == line_end) (lines_in xs) (lines_in ys) (has_first xs)

glue-last : (before : List (List ℕ)) (l : List ℕ) (more : List (List ℕ))
    → glue (before ++ l ∷ []) more ≡ before ++ onto l more
glue-last [] l more = refl
glue-last (b ∷ []) l more = refl
glue-last (b ∷ c ∷ before) l more = ap (λ lines. b ∷ lines) (glue-last (c ∷ before) l more)

-- what is read next goes on with the line that has no end yet
pub lines_in-read_on : (script more : List ℕ) (before : List (List ℕ)) (l : List ℕ)
    → lines_in script ≡ before ++ l ∷ []
    → lines_in (script ++ more) ≡ before ++ onto l (lines_in more)
lines_in-read_on script more before l parts =
    lines_in-append script more ∙ ap (λ lines. glue lines (lines_in more)) parts
    ∙ glue-last before l (lines_in more)

-- the line before further bytes has its end
pub is_over-lines_in : (xs : List ℕ) → is_over (lines_in xs) false ≡ true
is_over-lines_in xs = rw (has_first xs).parts

-- the first line to come goes on with the open line
pub first_later : (all before later more : List (List ℕ)) (open_line piece : List ℕ)
    → all ≡ before ++ onto open_line later → later ≡ piece ∷ more
    → all ≡ before ++ (open_line ++ piece) ∷ more
first_later all before later more open_line piece e f =
    e ∙ ap (λ lines. before ++ onto open_line lines) f

-- once it is answered, the next line is open
pub next_later : (all before : List (List ℕ)) (l open_line more : List ℕ)
    → all ≡ before ++ l ∷ lines_in more → open_line ≡ []
    → all ≡ (before ++ l ∷ []) ++ onto open_line (lines_in more)
next_later all before l open_line more e none =
    e ∙ ap (λ lines. before ++ l ∷ lines) (onto-empty (lines_in more) (has_first more)
    ∙ ap (λ bytes. onto bytes (lines_in more)) (sym none))
    ∙ sym (append_assoc before (l ∷ []) (onto open_line (lines_in more)))
