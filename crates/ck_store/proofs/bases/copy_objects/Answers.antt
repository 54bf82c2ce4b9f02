use Rattle.std.proofs.Common.{◌<◌, ◌++◌, ◌∷◌, [], Some, None, ap, sym, ◌∙◌, length, arith}
use Rattle.std.proofs.Common.{append-nil}
use Rattle.ck_store.specs.Index.{place}
use Rattle.ck_store.proofs.KeptLemmas.{kept-more}
use Rattle.ck_store.proofs.bases.copy_objects.Goals.{in-Some+in_ok-kept-2+in_ok-push, in_default}
use Rattle.ck_store.proofs.bases.copy_objects.Goals as goal

pub loop-place-preserved : goal.loop-place-preserved
loop-place-preserved c =
    let within : c.loop-place.place-index < length c.args.index.now = omega arith in
    elim c.match-object_at.branch [
      | in-Some+in_ok-kept-2+in_ok-push w ↦
          kept-more c.args.objects.now c.args.index.now c.loop-place.place-index (place 0 0) within
          (Some w.in-Some.object.now) w.in-Some.ensures c.loop-place.kept.items
          c.match-object_at.kept.items c.loop-place.invariant
          (ap (λ v. v.items) w.kept-is ∙ w.in_ok-push.ensures.items
          ∙ ap (λ k. c.loop-place.kept.items ++ k ∷ []) w.in_ok-kept-2.ensures)
      | in_default w ↦
          kept-more c.args.objects.now c.args.index.now c.loop-place.place-index (place 0 0) within
          None w.in_default.ensures c.loop-place.kept.items c.match-object_at.kept.items
          c.loop-place.invariant
          (ap (λ v. v.items) w.kept-is ∙ sym (append-nil c.loop-place.kept.items))
    ]
