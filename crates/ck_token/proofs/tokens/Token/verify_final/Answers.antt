use Rattle.std.proofs.Common.{sym, ◌∙◌}
use Rattle.ck_types.proofs.CheckLemmas.{check_of-err}
use Rattle.ck_journal.specs.Answers.{verify_final_error}
use Rattle.ck_journal.specs.declared.calls.Call.TheVariants as call
use Rattle.ck_token.proofs.DecisionLemmas.{refusing-decision, verify_final-ends}
use Rattle.ck_token.proofs.tokens.Token.verify_final.Goals as goal

pub returns-in-Err : goal.returns-in-Err
returns-in-Err c =
    let h = c.args.self.now.history in
    let session = c.args.session in
    let signature = c.args.signature.now in
    let fails = check_of-err (verify_final_error h session signature) c.in-Err.error
    (sym c.check_verify_final.ensures ∙ c.in-Err.is) in
    refusing-decision c.args.self.now.limits h (call.VerifyFinal session signature)
    c.ending_refusal.result c.in-Err.error _
    c.ending_refusal.ensures fails (verify_final-ends h session signature c.in-Err.error fails)
