use Rattle.ck_objects.proofs.KeyLemmas.{generated-placement, same-placement}
use Rattle.ck_objects.proofs.templates.Template.generation_placement.Goals as goal

-- its flags are the template's, else those of keys
pub returns : goal.returns
returns c =
    λ random. let e = generated-placement c.args.self.now.items random in
    let token = rw c.as_slice.ensures at c.with.ensures.token in
    let private = rw c.as_slice.ensures at c.with.ensures.private in
    rw e (same-placement c.with.result _ _ token private)
