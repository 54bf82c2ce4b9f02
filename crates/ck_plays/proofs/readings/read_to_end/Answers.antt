use Rattle.std.proofs.Common.{◌≡◌, take, ◌∙◌, arith}
use Rattle.std.proofs.lemmas.Result.{err_from_is_err_and}
use Rattle.std.proofs.lemmas.Bool.{ne_eqb}
use Rattle.ck_plays.proofs.ReadingLemmas.{read-nothing, read-more, read-failed, read-unkept}
use Rattle.ck_plays.proofs.ReadingLemmas.{read-ended, read-out}
use Rattle.ck_plays.proofs.readings.read_to_end.Goals as goal

pub reading-init : goal.reading-init
reading-init g c =
    (c.requires.room, λ read h. read-nothing read _ c.args.script.now.items c.requires.none h)

pub returns-in_err-count : goal.returns-in_err-count
returns-in_err-count g c =
    let p = err_from_is_err_and c.from_residual.result c.from_residual.ensures.1 in
    rw p.1 (λ read h. read-failed c.args.most read _ _ c.reading.script.items c.reading._read _
    (p.2 ∙ c.in_err-count.ensures.fault) c.reading-test.true (c.reading.invariant.1 read h)
    c.in_err-count.ensures.err)

pub returns-then-count-eq0 : goal.returns-then-count-eq0
returns-then-count-eq0 g c read h =
    read-ended c.args.most read _ _ c.reading.script.items c.reading._read c.in_ok-count.count
    (take c.in_ok-count.count c.read_some.new.buffer) c.if-count-eq0.true c.reading-test.true
    (c.reading.invariant.1 read h) c.in_ok-count.ensures.ok

pub returns-in_err-extend_from_slice : goal.returns-in_err-extend_from_slice
returns-in_err-extend_from_slice g c =
    let p = err_from_is_err_and c.from_residual-in_err-extend_from_slice.result
    c.from_residual-in_err-extend_from_slice.ensures.1 in
    rw p.1 (λ read h. rw p.2 (read-unkept c.args.most read _ _ c.reading.script.items _
    c.reading._read c.in_ok-count.count (take c.in_ok-count.count c.read_some.new.buffer)
    (ne_eqb _ 0 c.if-count-eq0.false) c.reading-test.true (c.reading.invariant.1 read h)
    c.in_ok-count.ensures.ok))

pub reading-preserved : goal.reading-preserved
reading-preserved g c = (
  omega arith,
  λ read h. read-more read _ _ c.reading.script.items _ c.reading._read _
      c.in_ok-count.count (take c.in_ok-count.count c.read_some.new.buffer)
      (ne_eqb _ 0 c.if-count-eq0.false) (c.reading.invariant.1 read h)
      c.in_ok-count.ensures.ok
      c.in_ok-extend_from_slice.ensures.items (omega arith),
)

pub returns : goal.returns
returns g c read h =
    let all : c.reading._read ≡ c.args.most = omega arith in
    read-out c.args.most read _ c.reading.script.items c.reading._read all
    (c.reading.invariant.1 read h)
