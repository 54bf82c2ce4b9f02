use Rattle.std.proofs.Common.{sym, ◌∙◌}
use Rattle.ck_types.proofs.CheckLemmas.{check_of-ok, check_of-err}
use Rattle.ck_journal.specs.Answers.{verify_error}
use Rattle.ck_journal.specs.declared.calls.Call.TheVariants as call
use Rattle.ck_token.proofs.DecisionLemmas.{refusing-decision, verify-ends, ends-decision}
use Rattle.ck_token.proofs.tokens.Token.verify.Goals as goal

pub returns-in-Err : goal.returns-in-Err
returns-in-Err c =
    let h = c.args.self.now.history in
    let session = c.args.session in
    let bytes = c.args.bytes.now in
    let signature = c.args.signature.now in
    let fails = check_of-err (verify_error h session bytes signature) c.in-Err.error
    (sym c.check_verify.ensures ∙ c.in-Err.is) in
    refusing-decision c.args.self.now.limits h (call.Verify session bytes signature)
    c.ending_refusal.result c.in-Err.error _
    c.ending_refusal.ensures fails (verify-ends h session bytes signature c.in-Err.error fails)

pub returns-in-Ok : goal.returns-in-Ok
returns-in-Ok c =
    let h = c.args.self.now.history in
    let passes = check_of-ok (verify_error h c.args.session c.args.bytes.now c.args.signature.now) _
    (sym c.check_verify.ensures ∙ c.in-Ok.is) in
    ends-decision c.args.session c.of_change.result c.finish_change.result
    (verify_error h c.args.session c.args.bytes.now c.args.signature.now)
    c.of_change.ensures c.finish_change.ensures passes
