use Rattle.std.proofs.Common.{◌≤◌, ap, ◌∙◌, subst, sym, Contains, filter, length, arith}
use Rattle.slab.specs.Slab.{slab_len}
use Rattle.ck_store.specs.Index.{is_there, objects_at, IsIndex}
use Rattle.ck_store.proofs.BoundLemmas.{places-le-objects}
use Rattle.ck_store.proofs.PlaceLemmas.{Contains-unfiltered, Contains-passes}
use Rattle.ck_store.proofs.IntactLemmas.{compacted-objects, compacted-is_index}
use Rattle.ck_store.proofs.places.compact.Goals as goal

pub returns-then-len-clause-objects : goal.returns-then-len-clause-objects
returns-then-len-clause-objects c =
    ap (objects_at c.args.objects.now) c.drop_ended.ensures
    ∙ compacted-objects c.args.objects.now c.args.index.now.items

pub returns-then-len-clause-is_index : goal.returns-then-len-clause-is_index
returns-then-len-clause-is_index c = λ is_index.
    subst (IsIndex c.args.objects.now) (sym c.drop_ended.ensures)
    (compacted-is_index c.args.objects.now c.args.index.now.items is_index)

pub returns-then-len-clause-short : goal.returns-then-len-clause-short
returns-then-len-clause-short c = λ is_index.
    let kept = filter (is_there c.args.objects.now) c.args.index.now.items in
    let fit : length kept ≤ slab_len c.args.objects.now =
    places-le-objects kept c.args.objects.now
    (compacted-is_index c.args.objects.now c.args.index.now.items is_index).rises
    (λ p there. Contains-passes (is_there c.args.objects.now) c.args.index.now.items p there) in
    let same = ap length c.drop_ended.ensures in
    omega (arith, fit, same)

pub returns-then-len-clause-only : goal.returns-then-len-clause-only
returns-then-len-clause-only c = λ p there.
    Contains-unfiltered (is_there c.args.objects.now) c.args.index.now.items p
    (subst (λ ps. Contains ps p) c.drop_ended.ensures there)
