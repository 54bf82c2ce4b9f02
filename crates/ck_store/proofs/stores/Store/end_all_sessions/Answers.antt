use Rattle.ck_store.proofs.Moves.{StoreAgrees-all_closed}
use Rattle.ck_store.proofs.stores.Store.end_all_sessions.Goals as goal

pub returns : goal.returns
returns c = record {
  agree = λ h e d agree. StoreAgrees-all_closed h _
      agree e _ c.end.ensures.creations d c.end.ensures.rows;
}
