use Rattle.std.proofs.Common.{sym, ◌∙◌, subst}
use Rattle.std.specs.Prelude.{All, vec_items}
use Rattle.ck_journal.specs.TokenStates.{TokenState}
use Rattle.ck_callers.specs.Callers.{IsSettled}
use Rattle.ck_shared.proofs.shared.SharedToken.close.Goals as goal

pub returns-clause-settled : goal.returns-clause-settled
returns-clause-settled g c =
    subst (λ (t : TokenState). All (IsSettled t.history) (vec_items c.args.callers))
    (sym (c.into_token.ensures.token ∙ c.settle_all.ensures.same)) c.settle_all.ensures.settled
