use Rattle.ck_store.proofs.Moves.{StoreAgrees-closed}
use Rattle.ck_store.proofs.stores.Store.end_session.Goals as goal

pub returns : goal.returns
returns c = record {
  agree = λ h e d agree. StoreAgrees-closed h _
      agree e _ c.end.ensures.creations c.args.session d c.end.ensures.rows;
}
