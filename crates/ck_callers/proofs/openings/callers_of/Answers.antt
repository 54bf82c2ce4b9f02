use Rattle.std.proofs.Common.{length, sym, ap, ◌∙◌, subst, arith}
use Rattle.std.specs.Prelude.{vec_items}
use Rattle.std.specs.Vec.Iter.{into_iter_items}
use Rattle.ck_callers.specs.Accounts.{AreNew}
use Rattle.ck_callers.proofs.Opening.{made_next, made_all}
use Rattle.ck_callers.proofs.openings.callers_of.Goals as goal

pub new-requires-clause-count : goal.new-requires-clause-count
new-requires-clause-count g c =
    (subst AreNew c.in-Some.ensures.steps.0 c.loop-account.invariant.2).0

pub loop-account-preserved : goal.loop-account-preserved
loop-account-preserved g c =
    let next = made_next g.K.HistoryId.base (vec_items c.args.accounts)
    (vec_items c.loop-account.callers)
    (into_iter_items c.loop-account.account-iterator) c.loop-account.invariant.3 c.in-Some.account
    (into_iter_items c.next.new.self) c.in-Some.ensures.steps.0 c.loop-account.invariant.2
    c.new.result c.new.ensures (vec_items c.push_reserved.new.self)
    c.push_reserved.ensures.items in (
      tt,
      tt,
      next.0,
      next.1,
      omega (
        arith,
        ap length c.in-Some.ensures.steps.0,
        c.loop-account.invariant.4,
        c.push_reserved.ensures.len,
        c.push_reserved.ensures.capacity,
      ),
    )

pub push_reserved-requires : goal.push_reserved-requires
push_reserved-requires g c =
    omega (arith, ap length c.in-Some.ensures.steps.0, c.loop-account.invariant.4)

pub returns : goal.returns
returns g c =
    made_all g.K.HistoryId.base (vec_items c.args.accounts) (vec_items c.loop-account.callers)
    (into_iter_items c.loop-account.account-iterator) c.loop-account.invariant.3
    (sym c.loop-account.account-iterator.rest.ok.0 ∙ c.in-None.ensures.steps.0)
