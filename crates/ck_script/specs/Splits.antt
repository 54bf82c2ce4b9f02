-- The words of a text between separators
use Rattle.std.specs.Prelude.{ℕ, Bool, true, false, List, [], ◌∷◌, Option, Some, None, ◌==◌}
use Rattle.std.specs.Prelude.{length, option_and_then, if◌then◌else◌}
use Rattle.std.specs.List.{slice_split}

-- a text without a separator is one word; between two separators that stand together is an empty
-- one
abbrev pub words_of : ℕ → List ℕ → List (List ℕ)
words_of separator text = slice_split (λ b. b == separator) text

-- the words that are left where this text is, or none
abbrev pub words_left : ℕ → Bool → List ℕ → List (List ℕ)
words_left separator true text = []
words_left separator false text = words_of separator text

-- the word, or the words, where there are exactly as many
abbrev pub one_of : List (List ℕ) → Option (List ℕ)
one_of (a ∷ []) = Some a
one_of others = None

abbrev pub two_of : List (List ℕ) → Option (List ℕ × List ℕ)
two_of (a ∷ b ∷ []) = Some (a, b)
two_of others = None

abbrev pub three_of : List (List ℕ) → Option (List ℕ × List ℕ × List ℕ)
three_of (a ∷ b ∷ c ∷ []) = Some (a, b, c)
three_of others = None

abbrev pub four_of : List (List ℕ) → Option (List ℕ × List ℕ × List ℕ × List ℕ)
four_of (a ∷ b ∷ c ∷ d ∷ []) = Some (a, b, c, d)
four_of others = None

-- what the words mean, where there are exactly as many, and None where there aren't
abbrev pub with_none : {A : Type 0} → A → List (List ℕ) → Option A
with_none meaning words = if length words == 0 then Some meaning else None

abbrev pub with_one : {A : Type 0} → (List ℕ → Option A) → List (List ℕ) → Option A
with_one meaning words = option_and_then meaning (one_of words)

abbrev pub with_two : {A : Type 0} → (List ℕ → List ℕ → Option A) → List (List ℕ) → Option A
with_two meaning words = option_and_then (λ (p : List ℕ × List ℕ). meaning p.0 p.1) (two_of words)

abbrev pub with_three : {A : Type 0}
    → (List ℕ → List ℕ → List ℕ → Option A) → List (List ℕ) → Option A
with_three meaning words =
    option_and_then (λ (p : List ℕ × List ℕ × List ℕ). meaning p.0 p.1 p.2) (three_of words)

abbrev pub with_four : {A : Type 0}
    → (List ℕ → List ℕ → List ℕ → List ℕ → Option A) → List (List ℕ) → Option A
with_four meaning words =
    option_and_then (λ (p : List ℕ × List ℕ × List ℕ × List ℕ). meaning p.0 p.1 p.2 p.3)
    (four_of words)
