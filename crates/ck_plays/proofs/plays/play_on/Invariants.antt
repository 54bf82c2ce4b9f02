use Rattle.ck_types.specs.TokenLimits.{Ranges}
use Rattle.ck_plays.specs.Devices.{Reading, Writing}
use Rattle.ck_plays.specs.Players.{IsReading}
use Rattle.std.proofs.Common.{◌<◌, length}
use Rattle.ck_plays.proofs.plays.play_on.Given as goal

abbrev pub invariant-reading : goal.invariant-reading
invariant-reading g l =
    (0 < length l.buffer) × ((limits : Ranges) (read : Reading) (written : Writing)
    → IsReading limits read written 0 l.fn.player (g.R.Source.is_read l.fn.reader)
    (g.W.Sink.is_written l.fn.writer)
    → IsReading limits read written l._read l.player (g.R.Source.is_read l.reader)
    (g.W.Sink.is_written l.writer))
