use Rattle.std.proofs.Common.{◌≡◌, ◌++◌, true, length}
use Rattle.std.specs.Prelude.{option_map, is_some}
use Rattle.ck_script.specs.Arguments.{comma, each}
use Rattle.ck_script.specs.Splits.{words_of}
use Rattle.ck_script.proofs.arguments.list_in.Given as goal

-- what the list means follows from the items and the words behind them, and where there was no
-- memory for an item, whether it means something from these words
abbrev pub invariant-loop-word : goal.invariant-loop-word
invariant-loop-word g l =
    (l.has_memory ≡ true → option_map (λ rest. l.items.items ++ rest)
    (each g.T.Argument.value_in l.words)
    ≡ each g.T.Argument.value_in (words_of comma l.text))
    × (is_some (each g.T.Argument.value_in l.words)
    ≡ is_some (each g.T.Argument.value_in (words_of comma l.text)))

abbrev pub decreases-loop-word : goal.decreases-loop-word
decreases-loop-word g l = length l.words
