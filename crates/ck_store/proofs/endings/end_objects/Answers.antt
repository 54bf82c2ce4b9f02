use Rattle.ck_store.specs.Rows.{is_ended_by}
use Rattle.ck_store.proofs.PlaceLemmas.{LeavesOthers-then, ended-more}
use Rattle.ck_store.proofs.endings.end_objects.Goals as goal

pub loop-place-preserved : goal.loop-place-preserved
loop-place-preserved c = record {
  left = LeavesOthers-then (is_ended_by c.args.ending) c.args.objects.now c.loop-place.objects
      c.end_object.new.objects c.loop-place.invariant.left c.end_object.ensures.left;
  ended = ended-more c.args.ending c.loop-place.objects c.end_object.new.objects
      c.end_object.ensures.left c.args.places.now c.loop-place.place-index c.loop-place-test.true
      c.loop-place.invariant.ended c.end_object.ensures.ended;
}
