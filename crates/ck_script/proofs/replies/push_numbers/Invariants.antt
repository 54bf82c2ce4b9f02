use Rattle.std.proofs.Common.{◌≡◌, ℕ, ◌++◌, ◌∷◌, drop}
use Rattle.std.specs.Prelude.{false, flat_map}
use Rattle.std.specs.Fmt.{digits}
use Rattle.ck_script.specs.Replies.{base_number}
use Rattle.ck_script.specs.Arguments.{comma}
use Rattle.ck_script.proofs.replies.push_numbers.Given as goal

abbrev pub invariant-loop-number : goal.invariant-loop-number
invariant-loop-number l =
    let next = λ (n : ℕ). comma ∷ digits (base_number l.base) false n in
    l.out.items ++ flat_map next (drop l.number-index l.rest)
    ≡ l.initial.out.items ++ flat_map next l.rest
