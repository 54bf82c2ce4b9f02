use Rattle.std.proofs.Common.{ℕ, List, ◌++◌, length}
use Rattle.ck_types.specs.TokenLimits.{Ranges}
use Rattle.ck_plays.specs.Devices.{Writing}
use Rattle.ck_plays.specs.Players.{HasPlayed, IsAnsweredSoFar, onto}
use Rattle.ck_script.specs.Lines.{lines_in}
use Rattle.ck_plays.proofs.players.Player.answer_chunk.Given as goal

abbrev pub invariant-lines : goal.invariant-lines
invariant-lines g l =
    (limits : Ranges) (written : Writing) (lines : List (List ℕ))
    → HasPlayed limits written lines l.fn.self.token l.fn.self.number
    (g.W.Sink.is_written l.fn.writer)
    → IsAnsweredSoFar limits written (lines ++ onto l.fn.self.open_line
    (lines_in l.fn.chunk)) (lines_in l.rest) (length lines) l.self (g.W.Sink.is_written l.writer)

abbrev pub decreases-lines : goal.decreases-lines
decreases-lines g l = length l.rest
