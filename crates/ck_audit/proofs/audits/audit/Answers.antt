use Rattle.std.proofs.lemmas.Result.{IfOk-weaker}
use Rattle.ck_audit.proofs.VerdictLemmas.{verdict-legal, verdict-wrong}
use Rattle.ck_audit.proofs.audits.audit.Goals as goal

pub returns : goal.returns
returns g c =
    let found = rw c.in_ok-token.ensures.limits at c.replay.ensures in
    let h = c.args.journal.now.history in
    record {
      legal = IfOk-weaker c.replay.result _ _ (verdict-legal c.args.limits h) found;
      wrong = IfOk-weaker c.replay.result _ _ (verdict-wrong c.args.limits h) found;
    }
