use Rattle.std.proofs.Common.{arith}
use Rattle.std.specs.Prelude.{bit_xor}
use Rattle.std.proofs.lemmas.List.{get_or_default}
use Rattle.std.proofs.lemmas.List.Edits.{map_over_more}
use Rattle.ck_mac.proofs.macs.xor_each.Goals as goal

pub loop-byte-preserved : goal.loop-byte-preserved
loop-byte-preserved c =
    map_over_more (λ byte. bit_xor byte c.args.pad) c.args.bytes.now _ _ _
    (omega arith) c.loop-byte.invariant
    (get_or_default c.loop-byte.bytes _ _ _ (omega arith))
