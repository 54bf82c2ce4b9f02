use Rattle.std.proofs.lemmas.Result.{err_from_is_err_and}
use Rattle.ck_plays.proofs.PlayLemmas.{played-nothing, reading-nothing}
use Rattle.ck_plays.proofs.plays.play_with.Goals as goal

pub returns-in_err-buffer : goal.returns-in_err-buffer
returns-in_err-buffer g c =
    let p = err_from_is_err_and c.from_residual.result c.from_residual.ensures.1 in
    rw p.1 (λ read written h w. played-nothing _ _ read written _ _ _ p.2 h w)

pub returns : goal.returns
returns g c read written h w =
    c.play_on.ensures c.args.limits read written
    (reading-nothing c.args.limits read written _ _ _ c.new-player.ensures.limits
    c.new-player.ensures.history
    c.new-player.ensures.open_line c.new-player.ensures.number h w)
