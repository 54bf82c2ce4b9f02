use Rattle.std.proofs.Common.{Some, sym, ap, ◌∙◌}
use Rattle.std.specs.Option.{option_map_or}
use Rattle.ck_types.specs.declared.errors.RvError.TheVariants as rv_error
use Rattle.ck_types.proofs.CheckLemmas.{check_of-ok, check_of-err}
use Rattle.ck_journal.specs.Answers.{usage_error}
use Rattle.ck_token.proofs.DecisionLemmas.{of-err}
use Rattle.ck_token.proofs.tokens.Token.check_usable_key.Goals as goal

pub returns-clause-passes : goal.returns-clause-passes
returns-clause-passes c =
    ap (λ o. option_map_or (usage_error c.args.kind) o (Some rv_error.KeyHandleInvalid))
    c.in_ok-number.ensures.attributes
    ∙ check_of-ok (usage_error c.args.kind c.in_ok-number.attributes.now) _
    (sym c.check_usage.ensures ∙ c.in_ok-check_usage.was)

pub returns-in_err-check_usage-clause-fails : goal.returns-in_err-check_usage-clause-fails
returns-in_err-check_usage-clause-fails c =
    let code = c.in_err-check_usage.field-0.0 in
    of-err _ code _ c.from_residual-in_err-check_usage.ensures.1
    (ap (λ o. option_map_or (usage_error c.args.kind) o (Some rv_error.KeyHandleInvalid))
    c.in_ok-number.ensures.attributes
    ∙ check_of-err (usage_error c.args.kind c.in_ok-number.attributes.now) code
    (sym c.check_usage.ensures ∙ c.in_err-check_usage.was))
