use Rattle.ck_script.specs.Replies.{answer_text}
use Rattle.ck_script.proofs.JoinLemmas.{joined-rest}
use Rattle.ck_script.proofs.replies.push_answers.Goals as goal

pub returns : goal.returns
returns c =
    rw c.in-Some.ensures.cases.0
    (joined-rest answer_text c.in-Some.first.now c.in-Some.rest.now _ _ _ _
    c.in_ok-push_answer.ensures c.loop-answer-test.false c.loop-answer.invariant)
