use Rattle.std.proofs.Common.{sym, subst}
use Rattle.ck_journal.specs.Fronts.{IsFront}
use Rattle.ck_journal.proofs.FrontLemmas.{front_refl, front_trans}
use Rattle.ck_callers.specs.KnownHistories.{KnownState}
use Rattle.ck_callers.proofs.callers.Caller.learn.Goals as goal

pub invariant_of-self : goal.invariant_of-self
invariant_of-self g c =
    let front : IsFront c.self.inside.known.history c.news.inside.known.history =
    subst (λ h. IsFront h c.news.inside.known.history) c.front.ensures
    (subst (IsFront c.front.result.now) c.front-2.ensures
    (c.is_front_of.ensures.front c.if-is_front_of.true)) in (
      subst (λ (k : KnownState). IsFront c.self.inside.last k.history) (sym c.duplicate.ensures)
          (front_trans c.self.inside.last c.self.inside.known.history c.news.inside.known.history
          c.self.invariant.0
          front),
      c.self.invariant.1,
    )

pub returns-then-is_front_of-clause-front : goal.returns-then-is_front_of-clause-front
returns-then-is_front_of-clause-front g c =
    let front : IsFront c.self.inside.known.history c.news.inside.known.history =
    subst (λ h. IsFront h c.news.inside.known.history) c.front.ensures
    (subst (IsFront c.front.result.now) c.front-2.ensures
    (c.is_front_of.ensures.front c.if-is_front_of.true)) in
    rw (← c.self.view_is, c.duplicate.ensures) front

pub returns-then-is_front_of-clause-news : goal.returns-then-is_front_of-clause-news
returns-then-is_front_of-clause-news g c = rw (← c.news.view_is, c.duplicate.ensures)
    (front_refl c.news.inside.known.history)

pub returns-else-is_front_of-clause-news : goal.returns-else-is_front_of-clause-news
returns-else-is_front_of-clause-news g c =
    let longer : IsFront c.news.inside.known.history c.self.inside.known.history =
    subst (IsFront c.news.inside.known.history) c.front.ensures
    (subst (λ h. IsFront h c.front.result.now) c.front-2.ensures
    (c.is_front_of.ensures.longer c.if-is_front_of.false)) in
    rw (← c.self.view_is, ← c.news.view_is) longer
