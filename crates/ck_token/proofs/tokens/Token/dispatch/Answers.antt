use Rattle.std.proofs.Common.{ap}
use Rattle.std.specs.Option.{option_copied}
use Rattle.ck_journal.specs.OperationCalls.{single_part, operation_step}
use Rattle.ck_journal.specs.declared.operations.OperationKind.TheVariants as kind
use Rattle.ck_journal.proofs.WorkLemmas.{ready-for}
use Rattle.ck_token.proofs.tokens.Token.dispatch.Goals as goal

pub returns-in-CopyObject : goal.returns-in-CopyObject
returns-in-CopyObject c = rw c.in-CopyObject.is c.copy_object.ensures

pub returns-in-GetAttributeValue : goal.returns-in-GetAttributeValue
returns-in-GetAttributeValue c =
    rw (c.in-GetAttributeValue.is, ← c.as_slice-in-GetAttributeValue.ensures)
    c.get_attribute_value.ensures

pub returns-in-SetAttributeValue : goal.returns-in-SetAttributeValue
returns-in-SetAttributeValue c = rw c.in-SetAttributeValue.is c.set_attribute_value.ensures

pub returns-in-SetKeyState : goal.returns-in-SetKeyState
returns-in-SetKeyState c = rw c.in-SetKeyState.is c.set_key_state.ensures

pub returns-in-DestroyObject : goal.returns-in-DestroyObject
returns-in-DestroyObject c = rw c.in-DestroyObject.is c.destroy_object.ensures

pub returns-in-SignInit : goal.returns-in-SignInit
returns-in-SignInit c = rw c.in-SignInit.is c.hmac_init.ensures

pub returns-in-VerifyInit : goal.returns-in-VerifyInit
returns-in-VerifyInit c = rw c.in-VerifyInit.is c.hmac_init-in-VerifyInit.ensures

pub finish_single_part-requires : goal.finish_single_part-requires
finish_single_part-requires c =
    rw c.as_slice-in-Digest.ensures
    (ready-for c.args.self.now.history c.args.call.now kind.Digest c.in-Digest.session
    (single_part _) (ap operation_step c.in-Digest.is) (option_copied c.args.ready) c.requires)

pub finish_single_part-requires-in-Sign : goal.finish_single_part-requires-in-Sign
finish_single_part-requires-in-Sign c =
    rw c.as_slice-in-Sign.ensures
    (ready-for c.args.self.now.history c.args.call.now kind.Sign c.in-Sign.session
    (single_part _) (ap operation_step c.in-Sign.is) (option_copied c.args.ready) c.requires)

pub verify-requires : goal.verify-requires
verify-requires c =
    rw c.as_slice-in-Verify.ensures
    (ready-for c.args.self.now.history c.args.call.now kind.Verify c.in-Verify.session
    (single_part _) (ap operation_step c.in-Verify.is) (option_copied c.args.ready) c.requires)
