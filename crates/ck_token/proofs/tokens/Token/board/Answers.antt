use Rattle.std.proofs.Common.{◌≡◌, ◌≤◌, length, ap, ◌∙◌, arith}
use Rattle.std.proofs.lemmas.List.{length-map}
use Rattle.ck_journal.specs.Sessions.{open_sessions}
use Rattle.ck_journal.proofs.OpenLemmas.{open-bound}
use Rattle.ck_sessions.specs.Agreement.{session_row}
use Rattle.ck_token.proofs.tokens.Token.board.Goals as goal

-- no more sessions are open than the limit allows, which is at most 64
pub board-requires : goal.board-requires
board-requires c =
    let agree = c.self.invariant in
    let h = c.self.inside.journal.history in
    let rows : length c.self.inside.parts.sessions.rows ≡ length (open_sessions h) =
    ap length agree.parts.sessions.rows ∙ length-map (open_sessions h) (session_row h) in
    let few : length (open_sessions h) ≤ c.self.inside.limits.sessions =
    open-bound c.self.inside.limits h
    agree.legal in
    let most : c.self.inside.limits.sessions ≤ 64 = agree.ranges.1 in
    omega (arith, rows, few, most)

pub returns : goal.returns
returns c =
    let agree = c.self.invariant in
    rw (← c.self.view_is) (c.board.ensures c.self.inside.limits c.self.inside.journal.history
    agree.parts.sessions c.sessions.ensures.value)
