use Rattle.ck_journal.specs.Answers.{message_error, tag_in}
use Rattle.ck_journal.specs.declared.operations.OperationKind.TheVariants as kind
use Rattle.ck_token.proofs.ComputedLemmas.{single_part-tag, tag-checked}
use Rattle.ck_token.proofs.tokens.Token.check_verify.Goals as goal

pub returns : goal.returns
returns c =
    let h = c.args.self.now.history in
    let session = c.args.session in
    let bytes = c.args.bytes.now in
    tag-checked (message_error kind.Verify h session bytes) _ (tag_in kind.Verify h session bytes)
    c.args.signature.now _ c.check.ensures
    (single_part-tag kind.Verify h session _ c.in_ok-operation.ensures.agrees _ bytes _
    c.in_ok-operation.ensures.unused c.requires c.tag_with.ensures)
    c.in_ok-operation.ensures.passes
