use Rattle.std.proofs.Common.{◌≡◌, List, None, refl, sym, ap, ◌∙◌}
use Rattle.ck_objects.specs.declared.items.Item.{Item}
use Rattle.ck_journal.specs.Answers.{ok, new_handle, create_object_error}
use Rattle.ck_journal.specs.declared.replies.Body.TheVariants as body
use Rattle.ck_journal.specs.declared.calls.Call.TheVariants as call
use Rattle.ck_parts.specs.declared.changes.Change.TheVariants as change
use Rattle.ck_token.specs.Decisions.{addition_error}
use Rattle.ck_token.proofs.DecisionLemmas.{refused-decision, memory-decision, skip, pass, stop}
use Rattle.ck_token.proofs.DecisionLemmas.{session-passes}
use Rattle.ck_token.proofs.tokens.Token.create_object.Goals.{In_ok-number}
use Rattle.ck_token.proofs.tokens.Token.create_object.Goals as goal

-- ---- the call is refused by the first check that fails

pub returns-in_err-check_creation : goal.returns-in_err-check_creation
returns-in_err-check_creation c =
    let h = c.args.self.now.history in
    let s = c.args.session in
    let code = c.in_err-check_creation.field-0.0 in
    refused-decision c.args.self.now.limits h (call.CreateObject s c.args.template.now) _ code
    c.from_residual-in_err-check_creation.ensures.1
    (skip _ _ (session-passes h s c.in_ok-row.ensures.open)
    ∙ stop _ _ _ code c.check_creation.ensures c.in_err-check_creation.was) refl

pub returns-in_err-number : goal.returns-in_err-number
returns-in_err-number c =
    let h = c.args.self.now.history in
    let s = c.args.session in
    let limits = c.args.self.now.limits in
    refused-decision limits h (call.CreateObject s c.args.template.now) _
    c.in_err-number.field-0.0 c.from_residual-in_err-number.ensures.1
    (skip _ _ (session-passes h s c.in_ok-row.ensures.open)
    ∙ pass _ _ _ _ c.check_creation.ensures c.in_ok-check_creation.was
    ∙ ap (addition_error limits h s) (sym c.creation_placement.ensures)
    ∙ c.in_err-number.ensures.fails s c.in_ok-row.ensures.row) refl

-- ---- all checks pass

allowed : (c : In_ok-number)
    → create_object_error c.args.self.now.limits c.args.self.now.history c.args.session
    c.args.template.now.items ≡ None
allowed c =
    let h = c.args.self.now.history in
    let s = c.args.session in
    skip _ _ (session-passes h s c.in_ok-row.ensures.open)
    ∙ pass _ _ _ _ c.check_creation.ensures c.in_ok-check_creation.was
    ∙ ap (addition_error c.args.self.now.limits h s) (sym c.creation_placement.ensures)
    ∙ c.in_ok-number.ensures.passes s c.in_ok-row.ensures.row

pub returns-in_err-made : goal.returns-in_err-made
returns-in_err-made c =
    memory-decision c.args.self.now.limits c.args.self.now.history
    (call.CreateObject c.args.session c.args.template.now) _
    c.from_residual-in_err-made.ensures.1 (allowed (goal.at.returns-in_err-made c).In_ok-number)
    refl

pub returns-in_err-attributes : goal.returns-in_err-attributes
returns-in_err-attributes c =
    memory-decision c.args.self.now.limits c.args.self.now.history
    (call.CreateObject c.args.session c.args.template.now) _
    c.from_residual-in_err-attributes.ensures.1
    (allowed (goal.at.returns-in_err-attributes c).In_ok-number) refl

pub returns : goal.returns
returns c =
    let h = c.args.self.now.history in
    let same = c.in_ok-attributes.ensures ∙ c.in_ok-made.ensures in (
      allowed (goal.at.returns c).In_ok-number,
      c.creation.ensures.reply ∙ ap (λ (a : List Item). ok (body.Handle (new_handle h a))) same,
      c.creation.ensures.change ∙ ap (λ (a : List Item). change.CreateObject c.args.session a) same,
    )
