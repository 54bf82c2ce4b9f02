use Rattle.std.proofs.Common.{◌≡◌, ◌++◌, map, take}
use Rattle.ck_sessions.specs.Rows.{board_row}
use Rattle.ck_sessions.proofs.rows.add_to_board.Given as goal

-- the board has the sessions so far
abbrev pub invariant-loop-row : goal.invariant-loop-row
invariant-loop-row l =
    l.board ≡ record l.initial.board
    { sessions = l.initial.board.sessions ++ map board_row (take l.row-index l.rows) }
