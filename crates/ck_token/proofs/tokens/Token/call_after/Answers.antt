use Rattle.std.proofs.lemmas.Grind.{common_steps}
use Rattle.std.proofs.Common.{arith}
use Rattle.std.proofs.Common.{ap, ◌∙◌}
use Rattle.ck_journal.specs.Histories.{entry_count}
use Rattle.ck_journal.specs.declared.replies.Body.{Body}
use Rattle.ck_journal.specs.declared.replies.Reply.{Reply}
use Rattle.ck_token.specs.Agreement.{TokenAgrees}
use Rattle.ck_token.specs.Decisions.{reply_of}
use Rattle.ck_parts.proofs.Counts.{counted}
use Rattle.ck_token.proofs.DecisionLemmas.{no_list, adds_nothing}
use Rattle.ck_token.proofs.Entering.{entered-agrees}
use Rattle.ck_token.proofs.tokens.Token.call_after.Goals as goal

pub returns-in_default-prepare-clause-succeeds : goal.returns-in_default-prepare-clause-succeeds
returns-in_default-prepare-clause-succeeds c = λ room free.
    let limits = c.args.self.now.limits in
    let h = c.args.self.now.history in
    let d = c.in-Ok.field-0 in
    let wrong = c.prepare.ensures.succeeds (rw (← c.self.view_is) at room)
    (no_list limits h c.args.call (reply_of d) c.in-Ok.ensures.reply free)
    (adds_nothing limits h c.args.call (reply_of d) d.change c.in-Ok.ensures.reply
    c.in-Ok.ensures.change free) in
    cc

pub apply-requires-clause-counted : goal.apply-requires-clause-counted
apply-requires-clause-counted c =
    let agree = c.self.invariant in
    let answered = rw (← c.self.view_is) at c.in-Ok.ensures.reply in
    let is = rw (← c.self.view_is) at c.in-Ok.ensures.change in
    let h = c.self.inside.journal.history in
    let d = c.in-Ok.field-0 in
    counted c.self.inside.limits agree.ranges h c.prepare.new.parts agree.legal
    (c.prepare.ensures.agree h agree.parts)
    c.args.call (reply_of d) answered d.change is

whole : (c : goal.After-reply_with-2)
    → TokenAgrees c.self.inside.limits c.push_reserved.new.self.history c.apply.new.self
whole c =
    let agree = c.self.invariant in
    let h = c.self.inside.journal.history in
    let answered = rw (← c.self.view_is) at c.in-Ok.ensures.reply in
    let is = rw (← c.self.view_is) at c.in-Ok.ensures.change in
    let d = c.in-Ok.field-0 in
    let with_body : Body → Reply = λ b. record { rv = d.rv; body = b } in
    entered-agrees c.self.inside.limits h c.self.inside.parts agree c.args.caller c.args.call
    (reply_of d)
    c.reply_with.result
    d.change c.apply.new.self c.push_reserved.new.self.history answered
    (c.reply_with.ensures ∙ ap with_body c.in-Ok-prepare.ensures.copy) is
    (c.push_reserved.ensures.history ∙ rw c.prepare.ensures.history)
    (λ e legal change called. c.apply.ensures.agree c.self.inside.limits h e legal change called
    (c.len-entries.ensures ∙ ap entry_count c.prepare.ensures.history)
    (rw (← called) (rw (← c.self.view_is) at c.ready_tag-ready.ensures))
    (c.prepare.ensures.agree h agree.parts))

pub invariant_of-self-2 : goal.invariant_of-self-2
invariant_of-self-2 c = whole c

pub returns-clause-legal : goal.returns-clause-legal
returns-clause-legal c = (whole c).legal

pub returns-clause-answered : goal.returns-clause-answered
returns-clause-answered c = grind (arith, common_steps)

pub returns-in_default-prepare-clause-unchanged : goal.returns-in_default-prepare-clause-unchanged
returns-in_default-prepare-clause-unchanged c = grind (arith, common_steps)
