use Rattle.std.proofs.Common.{◌∙◌}
use Rattle.ck_parts.proofs.additions.create_object.Goals as goal

pub returns : goal.returns
returns c = λ h e call d creates session attributes.
    c.create.ensures.agree h e call d creates session (c.into_inner.ensures ∙ attributes)
