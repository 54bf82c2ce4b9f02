-- The rule of the one history that threads share, and what the step tells that adds an entry
use Rattle.std.specs.Prelude.{ℕ, ◌≡◌, ◌==◌, true, List, [], ◌∷◌, ◌++◌, length, MatchBool}
use Rattle.logbook.specs.Pages.{Cell, Step, View, Book, Named}
use Rattle.ck_journal.specs.declared.calls.Entry.{Entry}

-- the first word is the length of the log; the second, which a book has as well, stays 0
abbrev pub HoldsLength : List Cell → List Entry → Type 0
HoldsLength cells log = cells ≡ (length log, true) ∷ (0, true) ∷ []

-- the first word of the book
abbrev pub head_of : Book → Named
head_of b = record { tracked = true; key = 0; book = b }

-- where the word had the expected length, that was the length of all that had been seen, and the
-- entry was added
abbrev pub Adds : Step Entry → View Entry ℕ → ℕ → View Entry ℕ → Type 0
Adds s v found w =
    MatchBool (found == s.old) ((w.0 ≡ v.0 ++ s.ask ∷ []) × (length v.0 ≡ s.old)) (Unit {0})
