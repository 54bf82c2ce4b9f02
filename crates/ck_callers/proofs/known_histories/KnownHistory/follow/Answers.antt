use Rattle.std.proofs.Common.{◌+◌, ◌-◌, slice_index, slice_set, sym, ap, ◌∙◌, subst, arith}
use Rattle.ck_callers.specs.KnownHistories.{KnownState, HasNext}
use Rattle.ck_callers.proofs.KnownLemmas.{followed, next_count-fits, next_counts}
use Rattle.ck_callers.proofs.known_histories.KnownHistory.follow.Goals as goal

pub overflow_add-self : goal.overflow_add-self
overflow_add-self g c =
    let next = subst (λ (k : KnownState). HasNext c.args.caller c.args.keeps_board k.history
    c.args.front.now)
    (sym c.self.view_is) c.requires in
    rw c.self.invariant.0 (omega (
      arith,
      next_count-fits c.args.caller c.args.keeps_board c.self.inside.front c.args.front.now next,
    ))

pub invariant_of-self : goal.invariant_of-self
invariant_of-self g c =
    let next = subst (λ (k : KnownState). HasNext c.args.caller c.args.keeps_board k.history
    c.args.front.now)
    (sym c.self.view_is) c.requires in
    let kept = followed g.K.HistoryId.limits c.args.caller c.args.keeps_board c.self.inside.front
    c.self.inside.changed c.args.front.now
    next c.self.invariant.1 c.self.invariant.2 in
    rw (c.last_change.ensures, c.duplicate.ensures) (
      ap (λ xs. slice_set xs (c.args.caller - 1) (slice_index xs (c.args.caller - 1) + 1))
          c.self.invariant.0
          ∙ next_counts c.args.caller c.args.keeps_board c.self.inside.front c.args.front.now next,
      kept.0,
      kept.1,
    )
