use Rattle.std.proofs.Common.{◌∙◌, ap, set}
use Rattle.ck_sessions.specs.Rows.{is_session, with_search}
use Rattle.ck_journal.proofs.Changes.{change_first-place, change_first-no_place}
use Rattle.ck_sessions.proofs.rows.set_search.Goals as goal

pub returns-in-Some : goal.returns-in-Some
returns-in-Some c =
    ap (set c.args.rows.now c.in-Some.position)
    (rw (← c.index-rows-position.is) at c.set_search.ensures)
    ∙ change_first-place (is_session c.args.session) (with_search c.args.search) c.args.rows.now
    c.in-Some.position c.index-rows-position.result c.in-Some.ensures c.index-rows-position.is

pub returns-in_default : goal.returns-in_default
returns-in_default c =
    change_first-no_place (is_session c.args.session) (with_search c.args.search) c.args.rows.now
    c.in_default.ensures
