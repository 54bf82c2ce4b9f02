use Rattle.std.proofs.Common.{refl, ap}
use Rattle.ck_store.specs.Index.{objects_at}
use Rattle.ck_store.proofs.Moves.{StoreAgrees-cleared}
use Rattle.ck_store.proofs.stores.Store.clear.Goals as goal

pub returns : goal.returns
returns c = record {
  agree = λ h e pin d agree. StoreAgrees-cleared h _
      (rw (← c.self.view_is) at agree) e _ refl pin d
      (ap (objects_at c.clear.new.self) c.clear-2.ensures.items);
}
