use Rattle.std.proofs.Common.{◌≡◌, ℕ, Bool, true, take}
use Rattle.ck_store.specs.Index.{LeavesOthers, HasNone, IsListed}
use Rattle.ck_store.specs.Rows.{is_ended_by, concerns}
use Rattle.ck_store.specs.declared.places.Place.{Place}
use Rattle.ck_store.proofs.endings.end_listed.Given as goal

-- the lists so far have no object that ends
abbrev pub invariant-loop-list : goal.invariant-loop-list
invariant-loop-list l = record {
  left : LeavesOthers (is_ended_by l.ending) l.initial.objects l.objects;
  ended : (session : ℕ) (private : Bool) (p : Place)
      → IsListed (take l.list-index l.lists) session private p
      → concerns l.ending session private ≡ true → HasNone (is_ended_by l.ending) l.objects p;
}
