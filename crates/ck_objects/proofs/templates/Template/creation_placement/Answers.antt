use Rattle.ck_objects.proofs.KeyLemmas.{created-placement, same-placement}
use Rattle.ck_objects.proofs.templates.Template.creation_placement.Goals as goal

-- its flags are the template's, else the defaults of its class
pub returns : goal.returns
returns c =
    let token = rw c.as_slice-items.ensures at c.with.ensures.token in
    let class = rw c.as_slice-items.ensures at c.class_of.ensures in
    let private =
    rw (c.as_slice-items.ensures, c.is_key.ensures, class) at c.with.ensures.private in
    rw (created-placement c.args.self.now.items) (same-placement c.with.result _ _ token private)
