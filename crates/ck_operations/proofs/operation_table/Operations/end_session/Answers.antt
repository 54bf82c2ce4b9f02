use Rattle.ck_operations.proofs.Moves.{operations-closed}
use Rattle.ck_operations.proofs.operation_table.Operations.end_session.Goals as goal

pub returns : goal.returns
returns c = record {
  agree =
      λ h e does agree.
      operations-closed h _ (rw (← c.self.view_is) at agree) e c.args.session does _
      c.remove_session.ensures;
}
