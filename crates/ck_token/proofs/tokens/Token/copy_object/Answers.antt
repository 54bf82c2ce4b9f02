use Rattle.std.proofs.Common.{◌≡◌, List, [], None, refl, sym, ap, ◌∙◌}
use Rattle.std.specs.Prelude.{unwrap_or}
use Rattle.ck_objects.specs.Records.{with_given}
use Rattle.ck_objects.specs.declared.items.Item.{Item}
use Rattle.ck_types.proofs.CheckLemmas.{check_of-ok}
use Rattle.ck_journal.specs.Answers.{ok, new_handle, copy_object_error}
use Rattle.ck_journal.specs.declared.calls.Call.TheVariants as call
use Rattle.ck_journal.specs.declared.replies.Body.TheVariants as body
use Rattle.ck_parts.specs.declared.changes.Change.TheVariants as change
use Rattle.ck_token.specs.Decisions.{addition_error}
use Rattle.ck_token.proofs.DecisionLemmas.{refused-decision, memory-decision, object-checks}
use Rattle.ck_token.proofs.DecisionLemmas.{pass, stop}
use Rattle.ck_token.proofs.tokens.Token.copy_object.Goals.{In_ok-number}
use Rattle.ck_token.proofs.tokens.Token.copy_object.Goals as goal

pub copy_with-requires : goal.copy_with-requires
copy_with-requires c = check_of-ok _ _ (sym c.check_copy.ensures ∙ c.in_ok-check_copy.was)

-- ---- the call is refused by the first check that fails

pub returns-in_err-check_flag : goal.returns-in_err-check_flag
returns-in_err-check_flag c =
    let h = c.args.self.now.history in
    let s = c.args.session in
    let code = c.in_err-check_flag.field-0.0 in
    refused-decision c.args.self.now.limits h
    (call.CopyObject s c.args.object c.args.template.now) _ code
    c.from_residual-in_err-check_flag.ensures.1
    (object-checks h s c.args.object _ c.in_ok-source.source.now _ c.in_ok-row.ensures.open
    c.in_ok-source.ensures.attributes
    (stop _ _ _ code c.check_flag.ensures c.in_err-check_flag.was)) refl

pub returns-in_err-check_copy : goal.returns-in_err-check_copy
returns-in_err-check_copy c =
    let h = c.args.self.now.history in
    let s = c.args.session in
    let code = c.in_err-check_copy.field-0.0 in
    refused-decision c.args.self.now.limits h
    (call.CopyObject s c.args.object c.args.template.now) _ code
    c.from_residual-in_err-check_copy.ensures.1
    (object-checks h s c.args.object _ c.in_ok-source.source.now _ c.in_ok-row.ensures.open
    c.in_ok-source.ensures.attributes
    (pass _ _ _ _ c.check_flag.ensures c.in_ok-check_flag.was
    ∙ stop _ _ _ code c.check_copy.ensures c.in_err-check_copy.was)) refl

pub returns-in_err-number : goal.returns-in_err-number
returns-in_err-number c =
    let h = c.args.self.now.history in
    let s = c.args.session in
    let code = c.in_err-number.field-0.0 in
    refused-decision c.args.self.now.limits h
    (call.CopyObject s c.args.object c.args.template.now) _ code
    c.from_residual-in_err-number.ensures.1
    (object-checks h s c.args.object _ c.in_ok-source.source.now _ c.in_ok-row.ensures.open
    c.in_ok-source.ensures.attributes
    (pass _ _ _ _ c.check_flag.ensures c.in_ok-check_flag.was
    ∙ pass _ _ _ _ c.check_copy.ensures c.in_ok-check_copy.was
    ∙ ap (addition_error c.args.self.now.limits h s) (sym c.copy_placement.ensures)
    ∙ c.in_err-number.ensures.fails s c.in_ok-row.ensures.row)) refl

-- ---- all checks pass

allowed : (c : In_ok-number)
    → copy_object_error c.args.self.now.limits c.args.self.now.history c.args.session
    c.args.object c.args.template.now.items ≡ None
allowed c =
    let h = c.args.self.now.history in
    let s = c.args.session in
    object-checks h s c.args.object _ c.in_ok-source.source.now _ c.in_ok-row.ensures.open
    c.in_ok-source.ensures.attributes
    (pass _ _ _ _ c.check_flag.ensures c.in_ok-check_flag.was
    ∙ pass _ _ _ _ c.check_copy.ensures c.in_ok-check_copy.was
    ∙ ap (addition_error c.args.self.now.limits h s) (sym c.copy_placement.ensures)
    ∙ c.in_ok-number.ensures.passes s c.in_ok-row.ensures.row)

pub returns-in_err-made : goal.returns-in_err-made
returns-in_err-made c =
    memory-decision c.args.self.now.limits c.args.self.now.history
    (call.CopyObject c.args.session c.args.object c.args.template.now) _
    c.from_residual-in_err-made.ensures.1 (allowed (goal.at.returns-in_err-made c).In_ok-number)
    refl

pub returns-in_err-attributes : goal.returns-in_err-attributes
returns-in_err-attributes c =
    memory-decision c.args.self.now.limits c.args.self.now.history
    (call.CopyObject c.args.session c.args.object c.args.template.now) _
    c.from_residual-in_err-attributes.ensures.1
    (allowed (goal.at.returns-in_err-attributes c).In_ok-number) refl

pub returns : goal.returns
returns c =
    let h = c.args.self.now.history in
    let same = c.in_ok-attributes.ensures
    ∙ c.in_ok-made.ensures
    ∙ ap (λ found. with_given c.args.template.now.items (unwrap_or found []))
    (sym c.in_ok-source.ensures.attributes) in (
      allowed (goal.at.returns c).In_ok-number,
      c.creation.ensures.reply ∙ ap (λ (a : List Item). ok (body.Handle (new_handle h a))) same,
      c.creation.ensures.change ∙ ap (λ (a : List Item). change.CreateObject c.args.session a) same,
    )
