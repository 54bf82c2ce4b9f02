use Rattle.ck_token.proofs.DecisionLemmas.{of-err, stop}
use Rattle.ck_token.proofs.tokens.Token.check_new_object.Goals as goal

pub returns-in_err-check_placement-clause-fails : goal.returns-in_err-check_placement-clause-fails
returns-in_err-check_placement-clause-fails c s row =
    let code = c.in_err-check_placement.field-0.0 in
    of-err c.from_residual.result code _ c.from_residual.ensures.1
    (stop _ _ _ code (c.check_placement.ensures s row) c.in_err-check_placement.was)
