-- What comes of a call that C asks for, and the number that C knows it by
use Rattle.std.specs.Prelude.{ℕ}
use Rattle.ck_foreign.specs.declared.outcomes.Outcome.{Outcome}
use Rattle.ck_foreign.specs.declared.outcomes.Outcome.TheVariants as outcome

abbrev pub outcome_number : Outcome → ℕ
outcome_number outcome.Answered = 0
outcome_number outcome.NoCall = 1
outcome_number outcome.NoMemory = 2
