use Rattle.std.proofs.Common.{refl, sym, ◌∙◌, subst, arith}
use Rattle.std.specs.Prelude.{All, vec_items}
use Rattle.std.specs.Vec.Iter.{into_iter_items}
use Rattle.ck_journal.specs.TokenStates.{TokenState}
use Rattle.ck_callers.specs.Callers.{IsSettled}
use Rattle.ck_shared.proofs.Settling.{all_next}
use Rattle.ck_shared.proofs.locked.Locked.settle_all.Goals as goal

pub loop-caller-init : goal.loop-caller-init
loop-caller-init g c = (
  tt,
  tt,
  refl,
  λ all. subst (All (IsSettled c.args.self.now.history))
      c.into_iter-caller-iterator.ensures.into_iter_gives.0 all,
)

pub loop-caller-preserved : goal.loop-caller-preserved
loop-caller-preserved g c =
    let caller = c.in-Some.caller in (
      tt,
      tt,
      c.settle.ensures.same ∙ c.loop-caller.invariant.2,
      all_next (IsSettled c.args.self.now.history) caller
          (into_iter_items c.loop-caller.caller-iterator) (into_iter_items c.next.new.self)
          (vec_items c.args.callers) c.in-Some.ensures.steps.0
          (subst (λ (t : TokenState). IsSettled t.history caller) c.loop-caller.invariant.2
          c.settle.ensures.settled)
          c.loop-caller.invariant.3,
    )

pub returns-clause-settled : goal.returns-clause-settled
returns-clause-settled g c =
    let none = sym c.loop-caller.caller-iterator.rest.ok.0 ∙ c.in-None.ensures.steps.0 in
    c.loop-caller.invariant.3 (λ k d below. absurd (omega (arith, none)))
