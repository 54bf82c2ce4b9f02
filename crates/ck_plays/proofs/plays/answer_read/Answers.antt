use Rattle.std.proofs.Common.{◌∙◌}
use Rattle.std.proofs.lemmas.Result.{err_from_is_err_and}
use Rattle.ck_plays.proofs.PlayLemmas.{played-read_failed, played-ended, played-ended_stopped}
use Rattle.ck_plays.proofs.PlayLemmas.{played-fed_stopped, reading-so_far}
use Rattle.std.proofs.lemmas.Bool.{ne_eqb}
use Rattle.ck_plays.proofs.plays.answer_read.Goals as goal

pub returns-in_err-count-clause-err : goal.returns-in_err-count-clause-err
returns-in_err-count-clause-err g c =
    let p = err_from_is_err_and c.from_residual.result c.from_residual.ensures.1 in
    rw p.1 (played-read_failed c.args.player.now _ _ _ _ (p.2 ∙ c.in_err-count.ensures.fault)
    c.in_err-count.ensures.err)

pub returns-in_err-end_line-clause-err : goal.returns-in_err-end_line-clause-err
returns-in_err-end_line-clause-err g c =
    let p = err_from_is_err_and c.from_residual-in_err-end_line.result
    c.from_residual-in_err-end_line.ensures.1 in
    rw p.1 (played-ended_stopped c.args.player.now c.in_ok-count.count _ _ _ _ _
    c.in_ok-count.ensures.ok _ _ p.2 c.if-count-eq0.true c.in_err-end_line.ensures.err)

pub returns-then-count-eq0-clause-ok : goal.returns-then-count-eq0-clause-ok
returns-then-count-eq0-clause-ok g c =
    played-ended c.args.player.now c.in_ok-count.count _ _ _ _ _ c.in_ok-count.ensures.ok
    c.end_line.new.self.token c.end_line.new.self.number c.if-count-eq0.true
    c.in_ok-end_line.ensures.ok

pub returns-in_err-answer_chunk-clause-err : goal.returns-in_err-answer_chunk-clause-err
returns-in_err-answer_chunk-clause-err g c =
    let p = err_from_is_err_and c.from_residual-in_err-answer_chunk.result
    c.from_residual-in_err-answer_chunk.ensures.1 in
    rw p.1 (played-fed_stopped c.args.player.now c.in_ok-count.count _ _ _ _ _
    c.in_ok-count.ensures.ok _ _ p.2 (ne_eqb _ 0 c.if-count-eq0.false)
    c.in_err-answer_chunk.ensures.err)

pub returns-clause-ok : goal.returns-clause-ok
returns-clause-ok g c =
    reading-so_far c.args.player.now c.in_ok-count.count _ _ _ _ _ c.in_ok-count.ensures.ok
    c.answer_chunk.new.self (ne_eqb _ 0 c.if-count-eq0.false) c.in_ok-answer_chunk.ensures.ok
