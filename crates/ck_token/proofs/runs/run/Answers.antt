use Rattle.std.proofs.Common.{sym, arith}
use Rattle.std.specs.Vec.Iter.{into_iter_items}
use Rattle.std.proofs.lemmas.Grind.{common_steps}
use Rattle.ck_token.proofs.RunLemmas.{Answers-none, Answers-more, Answers-free, Answers-room}
use Rattle.ck_token.proofs.runs.run.Goals as goal

pub loop-caller-init : goal.loop-caller-init
loop-caller-init c = (
  tt,
  tt,
  Answers-none _ _ _ (sym c.into_iter-caller-iterator.ensures.into_iter_gives.0)
      c.journal-journal.ensures.legal,
)

pub loop-caller-preserved : goal.loop-caller-preserved
loop-caller-preserved c = (
  tt,
  tt,
  Answers-more _ _ _ (into_iter_items c.next.new.self) (c.in-Some.caller, c.in-Some.call)
      _ _ _ _ c.in-Some.ensures.steps.0
      c.loop-caller.invariant.2 c.in-Ok.ensures.answered c.make_call.ensures.legal
      c.in-Ok.ensures.room,
)

pub returns-in-Err-clause-succeeds : goal.returns-in-Err-clause-succeeds
returns-in-Err-clause-succeeds c = λ enough free.
    let f = Answers-free _ _ _ (into_iter_items c.next.new.self) (c.in-Some.caller, c.in-Some.call)
    _ _ c.in-Some.ensures.steps.0 c.loop-caller.invariant.2 enough free in
    c.in-Err.ensures.succeeds f.0 f.1

pub returns-in-Err-clause-run : goal.returns-in-Err-clause-run
returns-in-Err-clause-run c = grind (arith, common_steps)

pub returns-in-Err-clause-room : goal.returns-in-Err-clause-room
returns-in-Err-clause-room c =
    let before = Answers-room _ _ _ _ _ c.loop-caller.invariant.2 in
    let kept = c.in-Err.ensures.spare in
    omega arith

pub returns-clause-room : goal.returns-clause-room
returns-clause-room c = Answers-room _ _ _ _ _ c.loop-caller.invariant.2
