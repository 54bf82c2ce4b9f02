use Rattle.std.proofs.Common.{◌≡◌, ◌+◌, ap, ◌∙◌}
use Rattle.ck_journal.specs.Histories.{entry_count}
use Rattle.ck_audit.proofs.VerdictLemmas.{wrong-next}
use Rattle.ck_audit.proofs.audits.replay.Goals as goal

pub returns-then-not-branch : goal.returns-then-not-branch
returns-then-not-branch g c =
    let token = g.T.JournaledToken.state c.loop-entry.token in
    let so_far = c.loop-entry.invariant in
    let repeated = c.in_ok-repeat_call.ensures in
    let number : c.len.result ≡ entry_count token.history + 1 =
    c.len.ensures ∙ ap entry_count c.journal.ensures.history ∙ repeated.count in
    rw (so_far.history, c.in-Some.ensures.steps, number, ← so_far.limits)
    (wrong-next token.limits token.history c.in-Some.entry.now c.next.new.self so_far.legal
    (λ answered. let is = repeated.same.1 answered in let not = c.if-not-branch.true in cc))
