use Rattle.std.proofs.Common.{◌<◌, ℕ, Bool, true, false, cond, Some, None, sym, ◌∙◌, subst}
use Rattle.ck_journal.specs.Histories.{History}
use Rattle.ck_journal.specs.Operations.{is_active}
use Rattle.ck_journal.specs.declared.operations.OperationKind.{OperationKind}
use Rattle.ck_journal.proofs.WorkLemmas.{done-since}
use Rattle.ck_operations.specs.Agreement.{OptionAgrees, OperationAgrees, operation_at}
use Rattle.ck_operations.specs.Agreement.{active_operation}
use Rattle.ck_operations.specs.declared.active_operations.Operation.{Operation}
use Rattle.ck_token.proofs.tokens.Token.ready_tag.Goals as goal

found-agrees : (k : OperationKind) (h : History) (s : ℕ) (o : Operation)
    → OptionAgrees (Some o) (operation_at k h s) → OperationAgrees o (active_operation k h s)
found-agrees k h s o = cases (is_active k h s)
  where
    cases : (active : Bool)
        → OptionAgrees (Some o) (cond active (Some (active_operation k h s)) None)
        → OperationAgrees o (active_operation k h s)
    cases true same = same
    cases false same = absurd same

pub returns-then-last_change-work : goal.returns-then-last_change-work
returns-then-last_change-work c =
    let h = c.self.inside.journal.history in
    let k = c.in_ok-kind.kind in
    let session = c.in_ok-kind.session in
    let current = c.in_ok-current.current.now in
    let work = c.in_ok-work.work.now in
    let ahead = rw (← c.self.view_is) at (rw (c.in_ok-work.was) at c.requires) in
    let agrees = found-agrees k h session current
    (c.in_ok-current.ensures h c.self.invariant.parts.operations) in
    let changed = c.last_change.ensures ∙ agrees.changed in
    let before = subst (λ (n : ℕ). n < work.entries) changed c.if-last_change-work.true in
    rw (← c.self.view_is)
    (done-since k session c.args.call.now work ahead.0 h ahead.1
    (sym c.operation.ensures ∙ c.in_ok-kind.was) before ahead.2)
