use Rattle.std.proofs.Common.{refl}
use Rattle.std.proofs.lemmas.Result.{err_from_is_err_and}
use Rattle.ck_plays.proofs.PlayerLemmas.{stopped-extend_open_line, stopped-same, refused-same}
use Rattle.ck_plays.proofs.players.Player.complete_line.Goals as goal

pub returns-in_err-extend_open_line-clause-err : goal.returns-in_err-extend_open_line-clause-err
returns-in_err-extend_open_line-clause-err g c =
    let p = err_from_is_err_and c.from_residual.result c.from_residual.ensures.1 in
    rw p.1
    (λ limits written lines later ended over h.
    stopped-same limits written _ _ ended _ _ _ _ refl p.2
    (stopped-extend_open_line limits written lines later ended _ c.args.self.now.token
    c.args.self.now.number _ _
    (refused-same _ _ _ _ c.self.view_is c.in_err-extend_open_line.ensures.err) h))
