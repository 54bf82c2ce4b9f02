use Rattle.std.proofs.Common.{◌≡◌, inl, refl, true, arith}
use Rattle.std.specs.Prelude.{Contains}
use Rattle.std.proofs.lemmas.List.{take_all}
use Rattle.ck_store.specs.Index.{LeavesOthers, HasNone}
use Rattle.ck_store.specs.Rows.{is_ended_by, concerns}
use Rattle.ck_store.specs.declared.places.Place.{Place}
use Rattle.ck_store.proofs.PlaceLemmas.{LeavesOthers-then, ended_lists-more}
use Rattle.ck_store.proofs.endings.end_listed.Goals.{then-concerns, else-concerns}
use Rattle.ck_store.proofs.endings.end_listed.Goals as goal

pub loop-list-preserved : goal.loop-list-preserved
loop-list-preserved c =
    let ends : LeavesOthers (is_ended_by c.args.ending) c.loop-list.objects c.if-concerns.objects
    × (concerns c.args.ending c.list-item.result.session c.list-item.result.private ≡ true
    → (p : Place) → Contains c.list-item.result.places.items p
    → HasNone (is_ended_by c.args.ending) c.if-concerns.objects p) =
    elim c.if-concerns.branch [
      | then-concerns w ↦ rw w.objects-is (
        w.end_objects.ensures.left,
        λ t p there. w.end_objects.ensures.ended p (rw w.deref.ensures.value there),
      )
      | else-concerns w ↦ rw w.objects-is
          (λ key. inl refl, λ t p there. absurd (cc (c.concerns.ensures, w.if-concerns.false)))
    ] in
    record {
      left = LeavesOthers-then (is_ended_by c.args.ending) c.args.objects.now c.loop-list.objects
          c.if-concerns.objects c.loop-list.invariant.left ends.0;
      ended = ended_lists-more c.args.ending c.loop-list.objects c.if-concerns.objects ends.0
          c.args.lists.now c.loop-list.list-index c.list-item.result c.loop-list-test.true
          c.list-item.is c.loop-list.invariant.ended ends.1;
    }

pub returns-clause-ended : goal.returns-clause-ended
returns-clause-ended c = λ session private p listed.
    c.loop-list.invariant.ended session private p
    (rw (take_all c.loop-list.list-index c.args.lists.now (omega arith)) listed)
