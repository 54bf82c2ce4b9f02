use Rattle.ck_store.proofs.Moves.{StoreAgrees-logged_out}
use Rattle.ck_store.proofs.stores.Store.end_private.Goals as goal

pub returns : goal.returns
returns c = record {
  agree = λ h e session d agree. StoreAgrees-logged_out h _
      agree e _ c.end.ensures.creations session d c.end.ensures.rows;
}
