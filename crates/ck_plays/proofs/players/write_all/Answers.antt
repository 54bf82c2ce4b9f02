use Rattle.std.proofs.Common.{arith, take}
use Rattle.std.proofs.lemmas.Result.{err_from_is_err_and}
use Rattle.ck_plays.specs.Devices.{wrote}
use Rattle.ck_plays.proofs.WriteLemmas.{wrote-more, broken}
use Rattle.ck_plays.proofs.players.write_all.Goals as goal

pub returns-in_err-at-clause-err : goal.returns-in_err-at-clause-err
returns-in_err-at-clause-err g c =
    let p = err_from_is_err_and c.from_residual.result c.from_residual.ensures.1 in
    rw p.1 (λ w h. broken (g.W.Sink.is_written c.write_some.new.writer) w c.args.bytes.now
    c.loop-at.at (c.in_err-at.ensures.err (wrote w (take c.loop-at.at c.args.bytes.now))
    (c.loop-at.invariant.1 w h)))

pub loop-at-preserved : goal.loop-at-preserved
loop-at-preserved g c = (
  grind arith,
  λ w h. wrote-more (g.W.Sink.is_written c.write_some.new.writer) w c.args.bytes.now c.loop-at.at
      c.in_ok-at.field-0
      (c.in_ok-at.ensures.ok (wrote w (take c.loop-at.at c.args.bytes.now))
      (c.loop-at.invariant.1 w h)),
)
