use Rattle.std.proofs.Common.{◌≤◌, ◌-◌, take, length}
use Rattle.ck_plays.specs.Devices.{Writing}
use Rattle.ck_plays.specs.Devices.{wrote}
use Rattle.ck_plays.proofs.players.write_all.Given as goal

abbrev pub invariant-loop-at : goal.invariant-loop-at
invariant-loop-at g l =
    (l.at ≤ length l.bytes)
    × ((w : Writing) → g.W.Sink.is_written l.fn.writer w
    → g.W.Sink.is_written l.writer (wrote w (take l.at l.bytes)))

abbrev pub decreases-loop-at : goal.decreases-loop-at
decreases-loop-at g l = length l.bytes - l.at
