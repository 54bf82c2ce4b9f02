use Rattle.std.proofs.Common.{◌==◌, ℕ, find, sym, ap, ◌∙◌}
use Rattle.std.specs.Option.{option_copied}
use Rattle.ck_types.specs.Users.{session_state}
use Rattle.ck_journal.specs.Sessions.{has_rw_flag}
use Rattle.ck_journal.proofs.BoardLemmas.{info-closed, info-open}
use Rattle.ck_journal.proofs.boards.TokenBoard.session_info.Goals as goal

pub returns-in-None : goal.returns-in-None
returns-in-None c limits h is =
    let rows =
    ap (λ b. find (λ (row : ℕ × ℕ). row.0 == c.args.session) b.sessions)
    (c.self.view_is ∙ is) in
    info-closed limits h c.args.session
    (sym rows ∙ (sym c.find_row.ensures ∙ ap option_copied c.in-None.is))

pub returns-in-Some : goal.returns-in-Some
returns-in-Some c limits h is =
    let rows =
    ap (λ b. find (λ (row : ℕ × ℕ). row.0 == c.args.session) b.sessions)
    (c.self.view_is ∙ is) in
    info-open limits h c.args.session c.in-Some.field-0.now c.session_state.result
    (sym rows ∙ (sym c.find_row.ensures ∙ ap option_copied c.in-Some.is))
    (c.session_state.ensures ∙ ap (session_state c.self.inside.status.login) c.is_read_write.ensures
    ∙ ap (λ b. session_state b.status.login (has_rw_flag c.in-Some.field-0.now.1))
    (c.self.view_is ∙ is))
