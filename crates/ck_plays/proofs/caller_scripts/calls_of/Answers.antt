use Rattle.std.proofs.Common.{◌≡◌, [], ◌∷◌, refl, rules, arith}
use Rattle.std.proofs.lemmas.Result.{err_from_is_err_and}
use Rattle.ck_script.specs.Lines.{lines_in}
use Rattle.ck_plays.proofs.CallerScriptLemmas.{so_far-next, so_far-all, refused-line}
use Rattle.ck_plays.proofs.caller_scripts.calls_of.Goals as goal

pub lines-init : goal.lines-init
lines-init c = record {
  before = [];
  parts = refl;
  number_of = omega arith;
  so_far = record { good = tt; all = c.new-calls.ensures.items };
}

pub returns-in_err-add_line-clause-err : goal.returns-in_err-add_line-clause-err
returns-in_err-add_line-clause-err c =
    let p = err_from_is_err_and c.from_residual.result c.from_residual.ensures.1 in
    rw p.1 (refused-line c.args.callers _ _ (lines_in c.in-Some.more.now) c.in-Some.line.now
    c.lines.number c.lines.calls.items _ _ c.lines.invariant c.in-Some.ensures.lines p.2
    c.in_err-add_line.ensures.err)

pub lines-preserved : goal.lines-preserved
lines-preserved c =
    so_far-next c.args.callers _ (lines_in c.lines.rest.now) (lines_in c.in-Some.more.now)
    c.in-Some.line.now c.lines.number _ c.lines.calls.items _ c.lines.invariant
    c.in-Some.ensures.lines (omega arith) c.in_ok-add_line.ensures.good
    c.in_ok-add_line.ensures.added

pub returns-in_err-add_line-2-clause-err : goal.returns-in_err-add_line-2-clause-err
returns-in_err-add_line-2-clause-err c =
    let p = err_from_is_err_and c.from_residual-in_err-add_line-2.result
    c.from_residual-in_err-add_line-2.ensures.1 in
    let last : lines_in c.lines.rest.now ≡ c.lines.rest.now ∷ [] = search rules in
    rw p.1 (refused-line c.args.callers _ _ [] c.lines.rest.now
    c.lines.number c.lines.calls.items _ _ c.lines.invariant last p.2
    c.in_err-add_line-2.ensures.err)

pub returns-clause-ok : goal.returns-clause-ok
returns-clause-ok c =
    let last : lines_in c.lines.rest.now ≡ c.lines.rest.now ∷ [] = search rules in
    so_far-all c.args.callers _ _ _
    (so_far-next c.args.callers _ (lines_in c.lines.rest.now) [] c.lines.rest.now c.lines.number _
    c.lines.calls.items _ c.lines.invariant last refl c.in_ok-add_line-2.ensures.good
    c.in_ok-add_line-2.ensures.added)
