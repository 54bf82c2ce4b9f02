use Rattle.std.proofs.Common.{false}
use Rattle.std.specs.Fmt.{digits}
use Rattle.ck_script.specs.Replies.{base_number}
use Rattle.ck_script.proofs.JoinLemmas.{joined-rest}
use Rattle.ck_script.proofs.replies.push_numbers.Goals as goal

pub returns : goal.returns
returns c =
    rw c.in-Some.ensures.cases.0
    (joined-rest (digits (base_number c.args.base) false) c.in-Some.first.now c.in-Some.rest.now
    _ _ _ _ c.in_ok-push_number.ensures c.loop-number-test.false c.loop-number.invariant)
