use Rattle.std.proofs.Common.{◌≡◌, [], ◌∷◌, ◌++◌, length, refl, false, rules, arith}
use Rattle.std.proofs.lemmas.List.{length_push}
use Rattle.std.proofs.lemmas.Result.{err_from_is_err_and, MatchResult-weaker}
use Rattle.ck_script.specs.Lines.{lines_in}
use Rattle.ck_plays.proofs.LineLemmas.{first_later, next_later, is_over-lines_in}
use Rattle.ck_plays.proofs.PlayerLemmas.{stopped-extend_open_line, stopped-same, stopped-fewer}
use Rattle.ck_plays.proofs.PlayerLemmas.{refused-same}
use Rattle.ck_plays.proofs.players.Player.answer_chunk.Goals as goal

pub returns-in_err-complete_line-clause-err : goal.returns-in_err-complete_line-clause-err
returns-in_err-complete_line-clause-err g c =
    let p = err_from_is_err_and c.from_residual.result c.from_residual.ensures.1 in
    rw p.1
    (λ limits written lines h.
    let so_far = c.lines.invariant limits written lines h in
    stopped-fewer limits written _ false (length so_far.before) (length lines) _ _ so_far.on_time
    (stopped-same limits written _ _ false _ _ _ _
    (first_later _ so_far.before (lines_in c.lines.rest.now)
    (lines_in c.in-Some.more.now) _ c.in-Some.end.now so_far.parts c.in-Some.ensures.lines) p.2
    (c.in_err-complete_line.ensures.err limits written so_far.before
    (lines_in c.in-Some.more.now) false (is_over-lines_in c.in-Some.more.now) so_far.answered)))

pub lines-preserved : goal.lines-preserved
lines-preserved g c limits written lines h =
    let so_far = c.lines.invariant limits written lines h in
    record {
      before = _;
      parts = next_later _ so_far.before _ _ c.in-Some.more.now
          (first_later _ so_far.before (lines_in c.lines.rest.now)
          (lines_in c.in-Some.more.now) _ c.in-Some.end.now so_far.parts c.in-Some.ensures.lines)
          c.in_ok-complete_line.ensures.emptied;
      on_time = omega (
        arith,
        so_far.on_time,
        length_push so_far.before
            (c.lines.self.open_line ++ c.in-Some.end.now),
      );
      answered = c.in_ok-complete_line.ensures.ok limits written so_far.before so_far.answered;
    }

pub returns-clause-err : goal.returns-clause-err
returns-clause-err g c =
    MatchResult-weaker c.extend_open_line.result c.extend_open_line.ensures.err
    (λ u p. p)
    (λ f refused limits written lines h.
    let so_far = c.lines.invariant limits written lines h in
    let last : lines_in c.lines.rest.now ≡ c.lines.rest.now ∷ [] = search rules in
    stopped-fewer limits written _ false (length so_far.before) (length lines) _ _ so_far.on_time
    (stopped-same limits written _ _ false _ _ _ _
    (first_later _ so_far.before (lines_in c.lines.rest.now) [] _ c.lines.rest.now so_far.parts
    last) refl
    (stopped-extend_open_line limits written so_far.before [] false _ c.lines.self.token
    c.lines.self.number _ _ (refused-same _ _ _ _ c.self.view_is refused) so_far.answered)))
