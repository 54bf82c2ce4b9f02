use Rattle.ck_operations.proofs.RowLemmas.{added-at, added-nowhere}
use Rattle.ck_operations.proofs.rows.add_piece.Goals as goal

pub returns-in-Some : goal.returns-in-Some
returns-in-Some c =
    added-at c.args.kind c.args.session _ c.args.rows.now c.in-Some.position _ _
    c.in-Some.ensures c.add_piece.ensures

pub returns-in_default : goal.returns-in_default
returns-in_default c =
    added-nowhere c.args.kind c.args.session _ c.args.rows.now c.in_default.ensures
