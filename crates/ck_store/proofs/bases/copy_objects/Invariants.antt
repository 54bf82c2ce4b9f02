use Rattle.std.proofs.Common.{◌≡◌, map, take}
use Rattle.ck_store.specs.Index.{objects_at}
use Rattle.ck_store.specs.Rows.{kept_of}
use Rattle.ck_store.proofs.bases.copy_objects.Given as goal

-- the objects of the places so far
abbrev pub invariant-loop-place : goal.invariant-loop-place
invariant-loop-place l =
    l.kept.items ≡ map kept_of (objects_at l.objects (take l.place-index l.index))
