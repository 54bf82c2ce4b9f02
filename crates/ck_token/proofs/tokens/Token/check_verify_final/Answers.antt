use Rattle.std.proofs.Common.{arith}
use Rattle.std.proofs.lemmas.Grind.{common_steps}
use Rattle.ck_journal.specs.Answers.{final_error, tag_in}
use Rattle.ck_journal.specs.Operations.{message_in}
use Rattle.ck_journal.specs.declared.operations.OperationKind.TheVariants as kind
use Rattle.ck_token.proofs.ComputedLemmas.{message-tag, tag-checked}
use Rattle.ck_token.proofs.tokens.Token.check_verify_final.Goals as goal

pub returns-in_err-operation : goal.returns-in_err-operation
returns-in_err-operation c = grind (arith, common_steps)

pub returns : goal.returns
returns c =
    let h = c.args.self.now.history in
    let session = c.args.session in
    tag-checked (final_error kind.Verify h session) _
    (tag_in kind.Verify h session (message_in kind.Verify h session))
    c.args.signature.now _ c.check.ensures
    (message-tag kind.Verify h session _ c.in_ok-operation.ensures.agrees _ c.tag.ensures)
    c.in_ok-operation.ensures.passes
