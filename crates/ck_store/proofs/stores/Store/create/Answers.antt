use Rattle.ck_store.proofs.Moves.{StoreAgrees-created}
use Rattle.ck_store.proofs.stores.Store.create.Goals as goal

pub returns : goal.returns
returns c = record {
  agree = λ h e call d creation by items agree.
      StoreAgrees-created h _ (rw (← c.add.view_is) at agree) e _ call c.args.session
      c.args.attributes
      d creation by items (rw (← c.add.view_is) at c.add-2.ensures.rows) c.add-2.ensures.creations;
}
