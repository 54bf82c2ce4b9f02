use Rattle.ck_objects.proofs.GivenLemmas.{data-created, creation-passes}
use Rattle.ck_objects.proofs.KeyLemmas.{created-data}
use Rattle.ck_objects.proofs.data_objects.Data.created.Goals as goal

-- a template that passes the checks has no fault in form
pub set-requires-clause-well_formed : goal.set-requires-clause-well_formed
set-requires-clause-well_formed c =
    rw (c.deref_mut.ensures.value, c.in_ok-values.ensures)
    (creation-passes c.args.items.now c.requires.passes).formed

-- and gives no class except that of data objects
pub set-requires-clause-class : goal.set-requires-clause-class
set-requires-clause-class c =
    rw (c.deref_mut.ensures.value, c.in_ok-values.ensures)
    (data-created c.args.items.now c.requires.class c.requires.passes)

-- the defaults with its values are what it creates
pub returns : goal.returns
returns c =
    let made = created-data c.args.items.now c.requires.class c.requires.passes in
    rw (c.deref_mut.ensures.value, c.in_ok-values.ensures, c.blank-data.ensures, made)
    at c.set.ensures
