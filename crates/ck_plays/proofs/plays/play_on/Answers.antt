use Rattle.std.proofs.Common.{◌≡◌, Err, sym, subst, arith}
use Rattle.std.proofs.lemmas.Result.{err_from_is_err_and}
use Rattle.ck_plays.specs.Plays.{IsPlayed}
use Rattle.ck_plays.specs.declared.faults.PlayFault.{PlayFault}
use Rattle.ck_plays.proofs.PlayLemmas.{read_on-ended, read_on-going, played-out}
use Rattle.ck_plays.proofs.plays.play_on.Goals as goal

pub returns-in_err-answer_read : goal.returns-in_err-answer_read
returns-in_err-answer_read g c =
    let p = err_from_is_err_and c.from_residual.result c.from_residual.ensures.1 in
    rw p.1
    (λ limits read written h. subst (λ (f : PlayFault).
    IsPlayed limits c.args.most read written (g.R.Source.is_read c.answer_read.new.reader)
    (g.W.Sink.is_written c.answer_read.new.writer) (Err f)) (sym p.2)
    (c.in_err-answer_read.ensures.err limits read written c.reading._read c.args.most
    c.reading-test.true (c.reading.invariant.1 limits read written h)))

pub returns-then-branch : goal.returns-then-branch
returns-then-branch g c limits read written h =
    read_on-ended _ limits c.args.most read written c.reading._read c.answer_read.new.player _ _
    c.if-branch.true
    (c.in_ok-answer_read.ensures.ok limits read written c.reading._read c.args.most
    c.reading-test.true (c.reading.invariant.1 limits read written h))

pub reading-preserved : goal.reading-preserved
reading-preserved g c = (
  omega arith,
  λ limits read written h. read_on-going _ limits c.args.most read written c.reading._read
      c.answer_read.new.player _ _ c.if-branch.false
      (c.in_ok-answer_read.ensures.ok limits read written c.reading._read c.args.most
      c.reading-test.true (c.reading.invariant.1 limits read written h)),
)

pub returns : goal.returns
returns g c limits read written h =
    let all : c.reading._read ≡ c.args.most = omega arith in
    played-out limits c.args.most read written c.reading._read c.reading.player _ _ all
    (c.reading.invariant.1 limits read written h)
