use Rattle.std.proofs.Common.{Contains, take}
use Rattle.ck_store.specs.Index.{LeavesOthers, HasNone}
use Rattle.ck_store.specs.Rows.{is_ended_by}
use Rattle.ck_store.specs.declared.places.Place.{Place}
use Rattle.ck_store.proofs.endings.end_objects.Given as goal

-- the places so far have no object that ends
abbrev pub invariant-loop-place : goal.invariant-loop-place
invariant-loop-place l = record {
  left : LeavesOthers (is_ended_by l.ending) l.initial.objects l.objects;
  ended : (p : Place) → Contains (take l.place-index l.places) p
      → HasNone (is_ended_by l.ending) l.objects p;
}
