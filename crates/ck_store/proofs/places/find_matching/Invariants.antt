use Rattle.std.proofs.Common.{◌≡◌, take}
use Rattle.ck_store.specs.Index.{objects_at}
use Rattle.ck_store.specs.Labels.{IsMarked}
use Rattle.ck_store.specs.Rows.{matching_numbers}
use Rattle.ck_store.proofs.places.find_matching.Given as goal

-- the numbers of the matches so far
abbrev pub invariant-loop-place : goal.invariant-loop-place
invariant-loop-place l =
    IsMarked l.objects l.marks → l.numbers.items
    ≡ matching_numbers l.view l.template.items (objects_at l.objects (take l.place-index l.index))
