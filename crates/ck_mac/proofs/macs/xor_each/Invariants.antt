use Rattle.std.proofs.Common.{◌≡◌, ◌++◌, take, drop}
use Rattle.ck_mac.specs.Macs.{xor_each}
use Rattle.ck_mac.proofs.macs.xor_each.Given as goal

abbrev pub invariant-loop-byte : goal.invariant-loop-byte
invariant-loop-byte l =
    l.bytes ≡ xor_each l.pad (take l.byte-index l.initial.bytes)
    ++ drop l.byte-index l.initial.bytes
