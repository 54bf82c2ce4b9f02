use Rattle.std.proofs.Common.{length, sym, ap, subst, arith}
use Rattle.std.specs.Prelude.{All, vec_items}
use Rattle.std.specs.Vec.Iter.{into_iter_items}
use Rattle.std.proofs.lemmas.List.Elements.{All-push, All-tail}
use Rattle.ck_program.specs.CallerCalls.{caller_numbers, IsNewCaller, IsUnplayed}
use Rattle.ck_program.proofs.NumberLemmas.{one_moved}
use Rattle.ck_program.proofs.thread_plays.scripts_of.Goals as goal

pub script_of-requires : goal.script_of-requires
script_of-requires g c =
    subst (All IsNewCaller) c.in-Some.ensures.steps.0 c.loop-caller.invariant.3 0 c.in-Some.caller
    (omega arith)

pub loop-caller-preserved : goal.loop-caller-preserved
loop-caller-preserved g c =
    let calls = c.args.calls.now in
    let left = subst (All IsNewCaller) c.in-Some.ensures.steps.0 c.loop-caller.invariant.3 in (
      tt,
      tt,
      subst (All (IsUnplayed calls)) (sym c.push_reserved.ensures.items)
          (All-push (IsUnplayed calls) (vec_items c.loop-caller.scripts) c.in_ok-script.script
          c.loop-caller.invariant.2
          c.in_ok-script.ensures.unplayed),
      All-tail IsNewCaller c.in-Some.caller (into_iter_items c.next.new.self) left,
      one_moved (λ s. s.caller.number) (λ x. x.number) (vec_items c.loop-caller.scripts)
          _ c.in_ok-script.script
          (into_iter_items c.loop-caller.caller-iterator) (into_iter_items c.next.new.self)
          c.in-Some.caller (caller_numbers (vec_items c.args.callers)) c.loop-caller.invariant.4
          c.in-Some.ensures.steps.0 c.push_reserved.ensures.items c.in_ok-script.ensures.number,
      omega (
        arith,
        ap length c.in-Some.ensures.steps.0,
        c.loop-caller.invariant.5,
        c.push_reserved.ensures.len,
        c.push_reserved.ensures.capacity,
      ),
    )

pub push_reserved-requires : goal.push_reserved-requires
push_reserved-requires g c =
    omega (arith, ap length c.in-Some.ensures.steps.0, c.loop-caller.invariant.5)
