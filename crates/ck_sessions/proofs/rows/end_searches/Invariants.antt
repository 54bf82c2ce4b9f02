use Rattle.std.proofs.Common.{◌≡◌, ◌++◌, map, take, drop, None}
use Rattle.ck_sessions.specs.Rows.{with_search}
use Rattle.ck_sessions.proofs.rows.end_searches.Given as goal

-- the rows so far have no search, the others are as they were
abbrev pub invariant-loop-row : goal.invariant-loop-row
invariant-loop-row l = l.rows ≡ map (with_search None) (take l.row-index l.initial.rows) ++ drop
    l.row-index
    l.initial.rows
