use Rattle.std.proofs.Common.{◌≡◌, ap, ◌∙◌}
use Rattle.ck_sessions.proofs.Readings.{with_rows, board-agrees}
use Rattle.ck_sessions.proofs.session_table.Sessions.board.Goals as goal

pub returns : goal.returns
returns c limits h agree limit =
    let rows : c.deref.result.now ≡ c.args.self.now.rows = c.deref.ensures.value ∙ ap (λ s. s.rows)
    c.self.view_is in
    c.add_to_board.ensures
    ∙ ap (with_rows c.deref.result.now) c.new-board.ensures
    ∙ board-agrees limits h c.args.self.now agree c.args.limit c.login_status.result
    c.deref.result.now
    limit (c.login_status.ensures h agree) rows
