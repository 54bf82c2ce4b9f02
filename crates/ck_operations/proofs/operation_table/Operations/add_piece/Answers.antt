use Rattle.std.proofs.Common.{arith}
use Rattle.std.proofs.lemmas.List.{with_items_is}
use Rattle.ck_operations.proofs.Moves.{operations-added}
use Rattle.ck_operations.proofs.operation_table.Operations.add_piece.Goals as goal

pub returns : goal.returns
returns c =
    let written = with_items_is c.self.inside.rows c.add_piece.new.rows (omega arith) in
    record {
      agree =
          λ h e now ready does agree.
          operations-added h _ (rw (← c.self.view_is) at agree) e c.args.kind c.args.session _
          now ready does _ (rw written (rw c.deref_mut.ensures.value at c.add_piece.ensures));
    }
