use Rattle.std.proofs.Common.{sym, ◌∙◌, ap, Some, Err, length}
use Rattle.std.specs.Prelude.{Option, Result}
use Rattle.std.proofs.lemmas.Result.{on_ok_weaker, MatchResult-weaker}
use Rattle.ck_script.specs.declared.line_errors.LineError.{LineError}
use Rattle.ck_script.specs.declared.lines.Line.{Line}
use Rattle.ck_plays.specs.Devices.{wrote}
use Rattle.ck_plays.specs.Plays.{output_of}
use Rattle.ck_plays.proofs.LineLemmas.{memory-short, none-of_bad, call-taking}
use Rattle.ck_plays.proofs.PlayerLemmas.{stopped-memory, stopped-bad, stopped-call}
use Rattle.ck_plays.proofs.PlayerLemmas.{answered-skipped}
use Rattle.ck_plays.proofs.PlayerLemmas.{answered-call}
use Rattle.ck_plays.proofs.players.answer_line.Goals as goal

pub returns-in-Ok-Skipped-clause-ok : goal.returns-in-Ok-Skipped-clause-ok
returns-in-Ok-Skipped-clause-ok g c limits written lines h =
    answered-skipped limits written lines c.args.line.now
    (g.T.JournaledToken.state c.args.token.now) c.args.number _
    (sym (c.in-Ok-Skipped.ensures.line
    ∙ ap (λ (m : Line). (let o : Option Line = Some m in o)) c.in-Ok-Skipped.field-0-is)) h

pub returns-in-Ok-Called-clause-ok : goal.returns-in-Ok-Called-clause-ok
returns-in-Ok-Called-clause-ok g c =
    on_ok_weaker c.answer_call.result
    (λ called limits written lines h.
    answered-call limits written lines c.args.line.now (g.T.JournaledToken.state c.args.token.now) _
    c.args.number _ _
    c.in-Ok-Called.caller c.in-Ok-Called.call
    (sym (c.in-Ok-Called.ensures.line
    ∙ ap (λ (m : Line). (let o : Option Line = Some m in o)) c.in-Ok-Called.field-0-is)) called h)
    c.answer_call.ensures.ok

pub returns-in-Ok-Called-clause-err : goal.returns-in-Ok-Called-clause-err
returns-in-Ok-Called-clause-err g c =
    MatchResult-weaker c.answer_call.result c.answer_call.ensures.err
    (λ u p. p)
    (λ f unwritten limits written lines later ended over h.
    stopped-call limits written lines later ended c.args.line.now
    (g.T.JournaledToken.state c.args.token.now) c.args.number _ _
    c.in-Ok-Called.caller c.in-Ok-Called.call f
    (sym (c.in-Ok-Called.ensures.line
    ∙ ap (λ (m : Line). (let o : Option Line = Some m in o)) c.in-Ok-Called.field-0-is)) over h
    (unwritten (wrote written (output_of limits lines)) h.writer))

pub returns-in-Err-Bad-clause-err : goal.returns-in-Err-Bad-clause-err
returns-in-Err-Bad-clause-err g c limits written lines later ended over h =
    stopped-bad limits written lines later ended c.args.line.now
    (g.T.JournaledToken.state c.args.token.now) c.args.number _ _
    (sym (none-of_bad _ c.in-Err-Bad.field-0 _ c.in-Err-Bad.field-0-is c.in-Err-Bad.ensures.bad))
    over h

pub returns-in-Err-Memory-clause-err : goal.returns-in-Err-Memory-clause-err
returns-in-Err-Memory-clause-err g c limits written lines later ended over h =
    stopped-memory limits written lines later ended c.args.line.now _
    (memory-short (length c.args.line.now) c.parse.result c.parse.ensures.long
    (c.in-Err-Memory.is
    ∙ ap (λ (e : LineError). (let r : Result Line LineError = Err e in r))
    c.in-Err-Memory.field-0-is)) h.good h.writer

pub returns-in-Err-Memory-clause-memory : goal.returns-in-Err-Memory-clause-memory
returns-in-Err-Memory-clause-memory g c = λ e.
    call-taking _ (c.parse.ensures.memory (c.in-Err-Memory.is
    ∙ ap (λ (e : LineError). (let r : Result Line LineError = Err e in r))
    c.in-Err-Memory.field-0-is))
