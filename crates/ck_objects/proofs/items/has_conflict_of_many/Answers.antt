use Rattle.std.proofs.Common.{◌∙◌}
use Rattle.ck_objects.proofs.ConflictLemmas.{has_conflict-attributes}
use Rattle.ck_objects.proofs.items.has_conflict_of_many.Goals as goal

-- an item with no fault in form is of one of the attributes
pub returns : goal.returns
returns c =
    c.has_conflict_in.ensures ∙ has_conflict-attributes c.args.items.now c.requires.well_formed
