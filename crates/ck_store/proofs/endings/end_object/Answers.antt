use Rattle.std.proofs.Common.{◌∙◌, sym}
use Rattle.ck_store.specs.Rows.{is_ended_by}
use Rattle.ck_store.proofs.PlaceLemmas.{LeavesOthers-removed}
use Rattle.ck_store.proofs.endings.end_object.Goals as goal

pub returns-then-is_ended_by-clause-left : goal.returns-then-is_ended_by-clause-left
returns-then-is_ended_by-clause-left c =
    LeavesOthers-removed (is_ended_by c.args.ending) c.args.objects.now c.try_remove.new.self
    c.args.place c.in-Some.object.now (sym c.in-Some.ensures)
    (sym c.is_ended_by.ensures ∙ c.if-is_ended_by.true) c.try_remove.ensures.updates
