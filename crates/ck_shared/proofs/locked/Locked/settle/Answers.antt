use Rattle.std.proofs.Common.{ap, ◌∙◌, subst}
use Rattle.ck_journal.specs.Fronts.{IsFront}
use Rattle.ck_shared.proofs.locked.Locked.settle.Goals as goal

pub returns-clause-settled : goal.returns-clause-settled
returns-clause-settled g c =
    let h = (g.T.JournaledToken.state c.self.inside.token).history in
    let front : IsFront c.args.caller.seen h =
    subst (λ seen. IsFront seen h)
    (c.front.ensures ∙ c.known.ensures ∙ ap (λ caller. caller.seen) c.show_settled.ensures.caller)
    (subst (IsFront c.front.result.now) (c.front-2.ensures ∙ c.self.invariant.0.history)
    c.show_is_front.ensures) in
    rw (← c.self.view_is) (c.show_settled.ensures.settled h c.self.invariant.0.books front)
