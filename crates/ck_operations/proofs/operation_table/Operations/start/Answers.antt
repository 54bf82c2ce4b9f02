use Rattle.ck_operations.proofs.Moves.{operations-started}
use Rattle.ck_operations.proofs.operation_table.Operations.start.Goals as goal

pub returns : goal.returns
returns c = record {
  agree = λ h e computation now holds of does idle agree.
      operations-started h _ (rw (← c.self.view_is) at agree) e c.args.kind c.args.session
      c.args.running c.args.key c.args.entries computation now holds of does idle _
      (rw c.new-operation.ensures at c.push_reserved.ensures.items);
}
