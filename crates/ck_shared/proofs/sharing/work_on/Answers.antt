use Rattle.std.proofs.Common.{sym, ◌∙◌, subst}
use Rattle.std.specs.List.{AllZip}
use Rattle.std.specs.Prelude.{vec_items}
use Rattle.ck_journal.specs.TokenStates.{TokenState}
use Rattle.ck_shared.specs.Outputs.{IsOfCaller}
use Rattle.ck_shared.proofs.OutputLemmas.{of_callers}
use Rattle.ck_shared.proofs.sharing.work_on.Goals as goal

pub returns-clause-outputs : goal.returns-clause-outputs
returns-clause-outputs g c =
    let holds = g.C.CallerWork.holds c.args.work.now in
    let callers = vec_items c.args.callers in
    let done = c.act_together-outputs.result in
    let acted = c.act_together-outputs.ensures in
    subst (λ (t : TokenState). AllZip (IsOfCaller holds t.history) callers (vec_items done.0))
    (sym (c.into_token.ensures.token ∙ c.settle_all.ensures.same))
    (of_callers holds c.into_locked-locked.result.history callers (vec_items done.0)
    (vec_items done.1) (sym done.0.ok.0 ∙ acted.len.0 ∙ c.args.callers.ok.0)
    (sym done.1.ok.0 ∙ acted.len.1 ∙ c.args.callers.ok.0) acted.done c.settle_all.ensures.settled)
