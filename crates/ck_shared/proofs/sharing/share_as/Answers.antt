use Rattle.std.proofs.Common.{◌≡◌, length, ap, ◌∙◌, arith}
use Rattle.std.specs.Prelude.{vec_len}
use Rattle.ck_shared.proofs.CallerNumbers.{length-new_callers}
use Rattle.ck_shared.proofs.sharing.share_as.Goals as goal

-- as many as the callers that the token was opened with
pub work_on-own-requires-clause-room : goal.work_on-own-requires-clause-room
work_on-own-requires-clause-room g c κs within =
    let opened = c.in-Ok.field-0.callers in
    let count : vec_len opened ≡ c.args.callers =
    opened.ok.0 ∙ ap length c.in-Ok.ensures.callers
    ∙ length-new_callers g.K.HistoryId.base c.args.callers in
    omega (arith, count, c.requires.room)

pub returns-in-Ok-clause-count : goal.returns-in-Ok-clause-count
returns-in-Ok-clause-count g c =
    let opened = c.in-Ok.field-0.callers in
    c.work_on-own.ensures.count ∙ opened.ok.0 ∙ ap length c.in-Ok.ensures.callers
    ∙ length-new_callers g.K.HistoryId.base c.args.callers
