use Rattle.ck_objects.proofs.GivenLemmas.{creation-passes}
use Rattle.ck_objects.proofs.KeyLemmas.{creation-keeps, created-key}
use Rattle.ck_objects.proofs.keys.Key.created.Goals as goal

pub new-requires-clause-well_formed : goal.new-requires-clause-well_formed
new-requires-clause-well_formed c =
    (creation-passes c.args.items.now c.requires.passes).formed

-- its value is the template's, and nothing else that it keeps is given
pub new-requires-clause-keeps : goal.new-requires-clause-keeps
new-requires-clause-keeps c =
    creation-keeps c.args.items.now _ c.requires.class c.requires.passes c.in_ok-value.ensures

-- the defaults with the template's values are what it creates
pub returns : goal.returns
returns c =
    let made = created-key c.args.items.now c.in_ok-value.value c.requires.class c.requires.passes
    c.in_ok-value.ensures in
    rw made at c.new.ensures
