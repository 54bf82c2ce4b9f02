use Rattle.std.proofs.Common.{◌<◌, length}
use Rattle.ck_plays.specs.Devices.{Reading}
use Rattle.ck_plays.specs.Readings.{HasReadSoFar}
use Rattle.ck_plays.proofs.readings.read_to_end.Given as goal

abbrev pub invariant-reading : goal.invariant-reading
invariant-reading g l =
    (0 < length l.buffer) × ((read : Reading) → g.R.Source.is_read l.fn.reader read
    → HasReadSoFar read (g.R.Source.is_read l.reader) l.script.items l._read)
