use Rattle.std.proofs.Common.{◌≡◌, take}
use Rattle.ck_store.specs.Labels.{label_mark}
use Rattle.ck_store.proofs.labels.label_mark.Given as goal

-- the mark of the bytes so far
abbrev pub invariant-loop-byte : goal.invariant-loop-byte
invariant-loop-byte l = l.mark ≡ label_mark (take l.byte-index l.label)
