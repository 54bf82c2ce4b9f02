use Rattle.std.proofs.Common.{◌++◌, ◌<◌, [], ◌∷◌, take, length, sym, ap, ◌∙◌, arith}
use Rattle.ck_program.specs.CallerCalls.{calls_by}
use Rattle.ck_program.proofs.CallerCallLemmas.{calls_by-next}
use Rattle.ck_program.proofs.thread_plays.calls_by.Goals as goal

pub loop-call-preserved : goal.loop-call-preserved
loop-call-preserved c =
    let calls = c.args.calls.now in
    let index = c.loop-call.call-index in
    let call = c.call-item.result in
    let within : index < length calls = omega arith in
    c.in_ok-add_own_call.ensures
    ∙ ap (λ own. own ++ calls_by c.args.number (call ∷ [])) c.loop-call.invariant
    ∙ ap (λ x. calls_by c.args.number (take index calls) ++ calls_by c.args.number (x ∷ []))
    c.call-item.is
    ∙ sym (calls_by-next c.args.number index calls call within)
