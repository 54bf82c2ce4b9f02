use Rattle.std.proofs.Common.{sym, subst}
use Rattle.ck_journal.specs.Fronts.{IsFront}
use Rattle.ck_callers.specs.Callers.{CallerState}
use Rattle.ck_callers.proofs.Settling.{settled}
use Rattle.ck_callers.proofs.callers.Caller.show_settled.Goals as goal

pub returns-clause-settled : goal.returns-clause-settled
returns-clause-settled g c = λ h counted front.
    let known = subst (λ (s : CallerState). IsFront s.seen h) (sym c.self.view_is) front in
    rw (← c.self.view_is) (settled h (record {
      number = c.self.inside.account.number;
      count = c.self.inside.account.count;
      last = c.self.inside.last;
      seen = c.self.inside.known.history;
    }) c.args.books.now c.show_count.ensures.range.0 c.show_count.ensures.range.1 counted
    c.show_count.ensures.same
    c.self.invariant.0 c.self.invariant.1 known)
