use Rattle.std.proofs.Common.{refl, ◌∙◌}
use Rattle.ck_store.specs.Rows.{has_number}
use Rattle.ck_store.proofs.Moves.{StoreAgrees-destroyed}
use Rattle.ck_store.proofs.PlaceLemmas.{LeavesOthers-was, objects_at-left}
use Rattle.ck_store.proofs.IntactLemmas.{IsIntact-fewer, invariant-compacted}
use Rattle.ck_store.proofs.stores.Store.destroy.Goals as goal

pub invariant_of-self : goal.invariant_of-self
invariant_of-self c =
    let left = (rw c.deref.ensures.value at c.remove_numbered.ensures.left)
    c.self.invariant.0.indexed in
    let intact =
    IsIntact-fewer c.self.inside.objects c.remove_numbered.new.objects c.self.inside.index.items
    c.self.inside.lists.items c.self.inside.unlisted c.self.inside.creations c.self.invariant.0
    (LeavesOthers-was (has_number c.args.number) c.self.inside.objects
    c.remove_numbered.new.objects left)
    in
    invariant-compacted (has_number c.args.number) c.self.inside.objects _ _
    c.compact.new.index.items _ _ _ c.self.inside.marks.items left intact c.self.invariant.1
    c.self.invariant.2 c.compact.ensures.is_index c.compact.ensures.only c.compact.ensures.short

pub returns : goal.returns
returns c = record {
  agree = λ h e session object d named agree.
      let here = rw (← c.self.view_is) at agree in
      let left =
      (rw c.deref.ensures.value at c.remove_numbered.ensures.left) c.self.invariant.0.indexed in
      let ended =
      (rw c.deref.ensures.value at c.remove_numbered.ensures.ended) c.self.invariant.0.indexed in
      StoreAgrees-destroyed h _ here e _ refl session object c.args.number named c.self.invariant.1
      d
      (c.compact.ensures.objects
      ∙ objects_at-left (has_number c.args.number) c.self.inside.objects
      c.remove_numbered.new.objects left ended c.self.inside.index.items);
}
