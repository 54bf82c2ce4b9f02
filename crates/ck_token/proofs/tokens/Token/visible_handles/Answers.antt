use Rattle.std.proofs.lemmas.Grind.{common_steps}
use Rattle.std.proofs.Common.{arith}
use Rattle.std.proofs.Common.{◌∙◌, ap, sym}
use Rattle.ck_journal.specs.Objects.{handle_of}
use Rattle.ck_token.proofs.SearchLemmas.{next, given-next, passed-next}
use Rattle.ck_token.proofs.SearchLemmas.{same-empty, some-given, on-err}
use Rattle.ck_token.proofs.tokens.Token.visible_handles.Goals.{in-Some+in_ok-push, in_default}
use Rattle.ck_token.proofs.tokens.Token.visible_handles.Goals as goal

pub loop-number-preserved : goal.loop-number-preserved
loop-number-preserved c =
    let h = c.self.inside.journal.history in
    let agree = c.self.invariant.parts.objects in
    let view = rw (← c.self.view_is) at c.view-view.ensures.view in
    let is = rw (← c.self.view_is) at c.loop-number.invariant in
    rw (← c.self.view_is) (elim c.match-handle.branch [
      | in-Some+in_ok-push w ↦
          given-next h (next h c.args.max c.args.numbers.now) c.loop-number.handles.items
          c.args.numbers.now
          c.loop-number.number-index c.loop-number.left is c.loop-number-test.true
          c.match-handle.handles.items c.match-handle.left w.in-Some.handle c.if-left-eq0.false
          (w.in-Some.ensures h agree view)
          (ap (λ v. v.items) w.handles-is ∙ w.in_ok-push.ensures.items)
          w.left-is
      | in_default w ↦
          passed-next h (next h c.args.max c.args.numbers.now) c.loop-number.handles.items
          c.args.numbers.now
          c.loop-number.number-index c.loop-number.left is c.loop-number-test.true
          c.match-handle.handles.items c.match-handle.left (w.in_default.ensures h agree view)
          (ap (λ v. v.items) w.handles-is) w.left-is
    ])

pub loop-number-init : goal.loop-number-init
loop-number-init c = grind (arith, common_steps)

pub returns : goal.returns
returns c = grind (arith, common_steps)

pub returns-in_err-push-clause-memory : goal.returns-in_err-push-clause-memory
returns-in_err-push-clause-memory c =
    let h = c.self.inside.journal.history in
    let agree = c.self.invariant.parts.objects in
    let view = rw (← c.self.view_is) at c.view-view.ensures.view in
    let is = rw (← c.self.view_is) at c.loop-number.invariant in
    let given = some-given h (next h c.args.max c.args.numbers.now) c.loop-number.handles.items
    c.args.numbers.now c.loop-number.number-index c.loop-number.left is c.loop-number-test.true
    c.in-Some.handle c.if-left-eq0.false (c.in-Some.ensures h agree view) in
    let some = sym (same-empty (handle_of h) _) ∙ given in
    on-err c.from_residual.result (rw (← c.self.view_is) some)
