use Rattle.std.proofs.Common.{length, sym, ap, subst, arith}
use Rattle.std.specs.Prelude.{All, vec_items}
use Rattle.std.specs.Vec.Iter.{into_iter_items}
use Rattle.std.proofs.lemmas.List.Elements.{All-push, All-tail}
use Rattle.ck_program.specs.CallerCalls.{script_numbers, HadThread, HasMadeAll, IsPlayedAll}
use Rattle.ck_program.proofs.NumberLemmas.{one_moved}
use Rattle.ck_program.proofs.thread_plays.callers_of.Goals as goal

pub loop-script-preserved : goal.loop-script-preserved
loop-script-preserved g c = (
  tt,
  tt,
  λ calls all.
      let before = c.loop-script.invariant.2 calls all in
      let left = subst (All (IsPlayedAll calls)) c.in-Some.ensures.steps.0 before.1 in
      let made = c.in_ok-caller.ensures.made calls (left 0 c.in-Some.script (omega arith)) in (
        subst (All (HasMadeAll calls)) (sym c.push_reserved.ensures.items)
            (All-push (HasMadeAll calls) (vec_items c.loop-script.callers) c.in_ok-caller.caller
            before.0 made),
        All-tail (IsPlayedAll calls) c.in-Some.script (into_iter_items c.next.new.self) left,
      ),
  one_moved (λ x. x.number) (λ s. s.caller.number) (vec_items c.loop-script.callers)
      _ c.in_ok-caller.caller
      (into_iter_items c.loop-script.script-iterator) (into_iter_items c.next.new.self)
      c.in-Some.script (script_numbers (vec_items c.args.scripts)) c.loop-script.invariant.3
      c.in-Some.ensures.steps.0 c.push_reserved.ensures.items
      c.in_ok-caller.ensures.number,
  λ all.
      All-tail HadThread c.in-Some.script (into_iter_items c.next.new.self)
      (subst (All HadThread) c.in-Some.ensures.steps.0 (c.loop-script.invariant.4 all)),
  omega (
    arith,
    ap length c.in-Some.ensures.steps.0,
    c.loop-script.invariant.5,
    c.push_reserved.ensures.len,
    c.push_reserved.ensures.capacity,
  ),
)

pub push_reserved-requires : goal.push_reserved-requires
push_reserved-requires g c =
    omega (arith, ap length c.in-Some.ensures.steps.0, c.loop-script.invariant.5)

pub returns-clause-made : goal.returns-clause-made
returns-clause-made g c calls all = (c.loop-script.invariant.2 calls all).0
