use Rattle.ck_operations.proofs.Moves.{operations-ended}
use Rattle.ck_operations.proofs.operation_table.Operations.end.Goals as goal

pub returns : goal.returns
returns c = record {
  agree =
      λ h e does agree.
      operations-ended h _ (rw (← c.self.view_is) at agree) e c.args.kind c.args.session
      does _ c.remove_operation.ensures;
}
