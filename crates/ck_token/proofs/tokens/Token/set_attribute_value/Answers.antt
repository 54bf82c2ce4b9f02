use Rattle.std.proofs.Common.{arith, ◌≡◌, refl, sym, ap, ◌∙◌}
use Rattle.std.specs.List.{AllZip}
use Rattle.std.specs.Prelude.{unwrap_or}
use Rattle.std.proofs.lemmas.List.Elements.{same_from_all_zip}
use Rattle.ck_objects.specs.Records.{placement_of}
use Rattle.ck_objects.specs.declared.items.Item.{Item}
use Rattle.ck_objects.specs.declared.templates.Template.{Template}
use Rattle.ck_types.specs.Checks.{check_of}
use Rattle.ck_types.proofs.CheckLemmas.{check_of-ok}
use Rattle.ck_journal.specs.Answers.{read_only_session_error}
use Rattle.ck_journal.specs.Objects.{object_named}
use Rattle.ck_journal.specs.declared.calls.Call.TheVariants as call
use Rattle.ck_parts.specs.declared.changes.Change.TheVariants as change
use Rattle.ck_token.specs.Decisions.{reply_of}
use Rattle.ck_token.specs.declared.decisions.Decision.{Decision}
use Rattle.ck_token.proofs.DecisionLemmas.{refused-decision, object-checks, pass, stop, same_check}
use Rattle.ck_token.proofs.tokens.Token.set_attribute_value.Goals.{After-check_writable}
use Rattle.ck_token.proofs.tokens.Token.set_attribute_value.Goals as goal

-- ---- the copy of the template

same_item : (x y : Item) → (y.kind ≡ x.kind) × (y.value ≡ x.value) → y ≡ x
same_item x y same = λ i. record { kind = same.0 i; value = same.1 i }

copied : (a b : Template)
    → AllZip (λ (x y : Item). (y.kind ≡ x.kind) × (y.value ≡ x.value)) a.items b.items → b ≡ a
copied a b each = λ i. record { items = same_from_all_zip _ _ _ each same_item i }

-- the result of the first check of the object
writable : (c : After-check_writable)
    → c.check_writable.result
    ≡ check_of (read_only_session_error c.args.self.now.history c.args.session
    (placement_of c.in_ok-number.present.now))
writable c =
    same_check (read_only_session_error c.args.self.now.history c.args.session) _ _ _
    c.placement.ensures (c.check_writable.ensures c.args.session c.in_ok-row.ensures.row)

-- ---- the call is refused by the first check that fails

pub returns-in_err-check_writable : goal.returns-in_err-check_writable
returns-in_err-check_writable c =
    let h = c.args.self.now.history in
    let s = c.args.session in
    let p = (goal.at.returns-in_err-check_writable c).After-check_writable in
    let code = c.in_err-check_writable.field-0.0 in
    refused-decision c.args.self.now.limits h
    (call.SetAttributeValue s c.args.object c.args.template.now) _ code
    c.from_residual-in_err-check_writable.ensures.1
    (object-checks h s c.args.object _ c.in_ok-number.present.now _ c.in_ok-row.ensures.open
    c.in_ok-number.ensures.attributes
    (stop _ _ _ code (writable p) c.in_err-check_writable.was)) refl

pub returns-in_err-check_flag : goal.returns-in_err-check_flag
returns-in_err-check_flag c =
    let h = c.args.self.now.history in
    let s = c.args.session in
    let p = (goal.at.returns-in_err-check_flag c).After-check_writable in
    let code = c.in_err-check_flag.field-0.0 in
    refused-decision c.args.self.now.limits h
    (call.SetAttributeValue s c.args.object c.args.template.now) _ code
    c.from_residual-in_err-check_flag.ensures.1
    (object-checks h s c.args.object _ c.in_ok-number.present.now _ c.in_ok-row.ensures.open
    c.in_ok-number.ensures.attributes
    (pass _ _ _ _ (writable p) c.in_ok-check_writable.was
    ∙ stop _ _ _ code c.check_flag.ensures c.in_err-check_flag.was)) refl

pub returns-in_err-check_change : goal.returns-in_err-check_change
returns-in_err-check_change c =
    let h = c.args.self.now.history in
    let s = c.args.session in
    let p = (goal.at.returns-in_err-check_change c).After-check_writable in
    let code = c.in_err-check_change.field-0.0 in
    refused-decision c.args.self.now.limits h
    (call.SetAttributeValue s c.args.object c.args.template.now) _ code
    c.from_residual-in_err-check_change.ensures.1
    (object-checks h s c.args.object _ c.in_ok-number.present.now _ c.in_ok-row.ensures.open
    c.in_ok-number.ensures.attributes
    (pass _ _ _ _ (writable p) c.in_ok-check_writable.was
    ∙ pass _ _ _ _ c.check_flag.ensures c.in_ok-check_flag.was
    ∙ stop _ _ _ code c.check_change.ensures c.in_err-check_change.was)) refl

-- ---- all checks pass

pub returns-in_err-values : goal.returns-in_err-values
returns-in_err-values c = grind (arith, check_of-ok)

pub returns : goal.returns
returns c =
    let h = c.args.self.now.history in
    let s = c.args.session in
    let p = (goal.at.returns c).After-check_writable in
    let number = ap (λ found. unwrap_or found 0) (sym c.in_ok-number.ensures.number) in (
      object-checks h s c.args.object _ c.in_ok-number.present.now _ c.in_ok-row.ensures.open
          c.in_ok-number.ensures.attributes
          (pass _ _ _ _ (writable p) c.in_ok-check_writable.was
          ∙ pass _ _ _ _ c.check_flag.ensures c.in_ok-check_flag.was
          ∙ pass _ _ _ _ c.check_change.ensures c.in_ok-check_change.was),
      ap reply_of c.of_change.ensures,
      ap (λ (d : Decision). d.change) c.of_change.ensures
          ∙ ap (λ n. change.SetAttributes n c.in_ok-values.values) number
          ∙ ap (change.SetAttributes (unwrap_or (object_named h c.args.object) 0))
          (copied c.args.template.now c.in_ok-values.values c.in_ok-values.ensures.cases),
    )
