use Rattle.std.proofs.Common.{◌≡◌, ◌++◌, ◌∷◌, drop}
use Rattle.std.specs.Prelude.{flat_map}
use Rattle.ck_script.specs.Replies.{answer_text}
use Rattle.ck_script.specs.Arguments.{comma}
use Rattle.ck_script.proofs.replies.push_answers.Given as goal

abbrev pub invariant-loop-answer : goal.invariant-loop-answer
invariant-loop-answer l =
    l.out.items ++ flat_map (λ answer. comma ∷ answer_text answer) (drop l.answer-index l.rest)
    ≡ l.initial.out.items ++ flat_map (λ answer. comma ∷ answer_text answer) l.rest
