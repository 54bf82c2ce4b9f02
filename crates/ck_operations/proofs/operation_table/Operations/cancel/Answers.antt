use Rattle.ck_operations.proofs.Moves.{operations-cancelled}
use Rattle.ck_operations.proofs.operation_table.Operations.cancel.Goals as goal

pub returns : goal.returns
returns c = record {
  agree = λ h e does agree.
      operations-cancelled h _ (rw (← c.self.view_is) at agree) e c.args.session c.args.flags does _
      c.remove_named.ensures;
}
