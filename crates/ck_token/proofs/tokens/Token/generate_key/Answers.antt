use Rattle.std.proofs.Common.{◌≡◌, List, None, not, refl, sym, ap, ◌∙◌}
use Rattle.ck_types.specs.Checks.{error_if, check_of}
use Rattle.ck_types.specs.Mechanisms.{is_key_generator}
use Rattle.ck_types.specs.declared.errors.RvError.TheVariants as rv_error
use Rattle.ck_objects.specs.declared.items.Item.{Item}
use Rattle.ck_journal.specs.declared.calls.Call.{Call}
use Rattle.ck_journal.specs.Answers.{ok, new_handle, generate_key_error}
use Rattle.ck_journal.specs.declared.replies.Body.TheVariants as body
use Rattle.ck_journal.specs.declared.calls.Call.TheVariants as call
use Rattle.ck_parts.specs.declared.changes.Change.TheVariants as change
use Rattle.ck_token.specs.Decisions.{addition_error}
use Rattle.ck_token.proofs.DecisionLemmas.{refused-decision, memory-decision, skip, pass, stop}
use Rattle.ck_token.proofs.DecisionLemmas.{same_check, session-passes}
use Rattle.ck_token.proofs.tokens.Token.generate_key.Goals.{After-error_if, In_ok-number}
use Rattle.ck_token.proofs.tokens.Token.generate_key.Goals as goal

-- the result of the check of the mechanism
generates : (c : After-error_if)
    → c.error_if.result
    ≡ check_of (error_if (not (is_key_generator c.args.mechanism.now.kind))
    rv_error.MechanismInvalid)
generates c =
    same_check (λ t. error_if (not t) rv_error.MechanismInvalid) _ _ _
    c.is_key_generator-generates.ensures c.error_if.ensures

-- the call
abbrev made : After-error_if → Call
made c =
    call.GenerateKey c.args.session c.args.mechanism.now c.args.template.now c.args.random.now

-- ---- the call is refused by the first check that fails

pub returns-in_err-error_if : goal.returns-in_err-error_if
returns-in_err-error_if c =
    let h = c.args.self.now.history in
    let p = (goal.at.returns-in_err-error_if c).After-error_if in
    let code = c.in_err-error_if.field-0.0 in
    refused-decision c.args.self.now.limits h (made p) _ code
    c.from_residual-in_err-error_if.ensures.1
    (skip _ _ (session-passes h c.args.session c.in_ok-row.ensures.open)
    ∙ stop _ _ _ code (generates p) c.in_err-error_if.was) refl

pub returns-in_err-check_no_parameter : goal.returns-in_err-check_no_parameter
returns-in_err-check_no_parameter c =
    let h = c.args.self.now.history in
    let p = (goal.at.returns-in_err-check_no_parameter c).After-error_if in
    let code = c.in_err-check_no_parameter.field-0.0 in
    refused-decision c.args.self.now.limits h (made p) _ code
    c.from_residual-in_err-check_no_parameter.ensures.1
    (skip _ _ (session-passes h c.args.session c.in_ok-row.ensures.open)
    ∙ pass _ _ _ _ (generates p) c.in_ok-error_if.was
    ∙ stop _ _ _ code c.check_no_parameter.ensures c.in_err-check_no_parameter.was) refl

pub returns-in_err-check_generation : goal.returns-in_err-check_generation
returns-in_err-check_generation c =
    let h = c.args.self.now.history in
    let p = (goal.at.returns-in_err-check_generation c).After-error_if in
    let code = c.in_err-check_generation.field-0.0 in
    refused-decision c.args.self.now.limits h (made p) _ code
    c.from_residual-in_err-check_generation.ensures.1
    (skip _ _ (session-passes h c.args.session c.in_ok-row.ensures.open)
    ∙ pass _ _ _ _ (generates p) c.in_ok-error_if.was
    ∙ pass _ _ _ _ c.check_no_parameter.ensures c.in_ok-check_no_parameter.was
    ∙ stop _ _ _ code c.check_generation.ensures c.in_err-check_generation.was) refl

pub returns-in_err-number : goal.returns-in_err-number
returns-in_err-number c =
    let h = c.args.self.now.history in
    let s = c.args.session in
    let p = (goal.at.returns-in_err-number c).After-error_if in
    refused-decision c.args.self.now.limits h (made p) _ c.in_err-number.field-0.0
    c.from_residual-in_err-number.ensures.1
    (skip _ _ (session-passes h s c.in_ok-row.ensures.open)
    ∙ pass _ _ _ _ (generates p) c.in_ok-error_if.was
    ∙ pass _ _ _ _ c.check_no_parameter.ensures c.in_ok-check_no_parameter.was
    ∙ pass _ _ _ _ c.check_generation.ensures c.in_ok-check_generation.was
    ∙ ap (addition_error c.args.self.now.limits h s)
    (sym (c.generation_placement.ensures c.args.random.now))
    ∙ c.in_err-number.ensures.fails s c.in_ok-row.ensures.row) refl

-- ---- all checks pass

allowed : (c : In_ok-number)
    → generate_key_error c.args.self.now.limits c.args.self.now.history c.args.session
    c.args.mechanism.now c.args.template.now.items c.args.random.now ≡ None
allowed c =
    let h = c.args.self.now.history in
    let s = c.args.session in
    skip _ _ (session-passes h s c.in_ok-row.ensures.open)
    ∙ pass _ _ _ _
    (same_check (λ t. error_if (not t) rv_error.MechanismInvalid) _ _ _
    c.is_key_generator-generates.ensures c.error_if.ensures) c.in_ok-error_if.was
    ∙ pass _ _ _ _ c.check_no_parameter.ensures c.in_ok-check_no_parameter.was
    ∙ pass _ _ _ _ c.check_generation.ensures c.in_ok-check_generation.was
    ∙ ap (addition_error c.args.self.now.limits h s)
    (sym (c.generation_placement.ensures c.args.random.now))
    ∙ c.in_ok-number.ensures.passes s c.in_ok-row.ensures.row

pub returns-in_err-made : goal.returns-in_err-made
returns-in_err-made c =
    let p = goal.at.returns-in_err-made c in
    memory-decision c.args.self.now.limits c.args.self.now.history (made p.After-error_if) _
    c.from_residual-in_err-made.ensures.1 (allowed p.In_ok-number) refl

pub returns-in_err-attributes : goal.returns-in_err-attributes
returns-in_err-attributes c =
    let p = goal.at.returns-in_err-attributes c in
    memory-decision c.args.self.now.limits c.args.self.now.history (made p.After-error_if) _
    c.from_residual-in_err-attributes.ensures.1 (allowed p.In_ok-number) refl

pub returns : goal.returns
returns c =
    let h = c.args.self.now.history in
    let same = c.in_ok-attributes.ensures ∙ c.in_ok-made.ensures in (
      allowed (goal.at.returns c).In_ok-number,
      c.creation.ensures.reply ∙ ap (λ (a : List Item). ok (body.Handle (new_handle h a))) same,
      c.creation.ensures.change ∙ ap (λ (a : List Item). change.CreateObject c.args.session a) same,
    )
