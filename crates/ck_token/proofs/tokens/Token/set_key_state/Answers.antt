use Rattle.std.proofs.Common.{◌≡◌, refl, ap, ◌∙◌}
use Rattle.ck_objects.specs.Records.{placement_of}
use Rattle.ck_types.specs.declared.errors.RvError.TheVariants as rv_error
use Rattle.ck_types.specs.Checks.{check_of}
use Rattle.ck_journal.specs.Answers.{read_only_session_error}
use Rattle.ck_journal.specs.Objects.{key_named}
use Rattle.ck_journal.specs.declared.calls.Call.TheVariants as call
use Rattle.ck_token.specs.declared.decisions.Decision.{Decision}
use Rattle.ck_token.specs.Decisions.{reply_of}
use Rattle.ck_token.proofs.DecisionLemmas.{refused-decision, named-checks, hit, skip, pass}
use Rattle.ck_token.proofs.DecisionLemmas.{stop, same_check}
use Rattle.ck_token.proofs.tokens.Token.set_key_state.Goals.{After-check_writable}
use Rattle.ck_token.proofs.tokens.Token.set_key_state.Goals as goal

-- the result of the first check of the key
writable : (c : After-check_writable)
    → c.check_writable.result
    ≡ check_of (read_only_session_error c.args.self.now.history c.args.session
    (placement_of c.in_ok-number.attributes.now))
writable c =
    same_check (read_only_session_error c.args.self.now.history c.args.session) _ _ _
    c.placement.ensures (c.check_writable.ensures c.args.session c.in_ok-row.ensures.row)

-- ---- the call is refused by the first check that fails

pub returns-in_err-check_writable : goal.returns-in_err-check_writable
returns-in_err-check_writable c =
    let h = c.args.self.now.history in
    let s = c.args.session in
    let p = (goal.at.returns-in_err-check_writable c).After-check_writable in
    let code = c.in_err-check_writable.field-0.0 in
    refused-decision c.args.self.now.limits h (call.SetKeyState s c.args.key c.args.state) _ code
    c.from_residual-in_err-check_writable.ensures.1
    (named-checks h s (key_named h c.args.key) rv_error.KeyHandleInvalid _ _ _
    c.in_ok-row.ensures.open c.in_ok-number.ensures.attributes
    (stop _ _ _ code (writable p) c.in_err-check_writable.was)) refl

pub returns-in_err-state : goal.returns-in_err-state
returns-in_err-state c =
    let h = c.args.self.now.history in
    let s = c.args.session in
    let p = (goal.at.returns-in_err-state c).After-check_writable in
    let code = c.in_err-state.field-0.0 in
    refused-decision c.args.self.now.limits h (call.SetKeyState s c.args.key c.args.state) _ code
    c.from_residual-in_err-state.ensures.1
    (named-checks h s (key_named h c.args.key) rv_error.KeyHandleInvalid _ _ _
    c.in_ok-row.ensures.open c.in_ok-number.ensures.attributes
    (pass _ _ _ _ (writable p) c.in_ok-check_writable.was
    ∙ hit _ _ code c.in_err-state.ensures.fails)) refl

-- ---- all checks pass

pub returns : goal.returns
returns c =
    let h = c.args.self.now.history in
    let s = c.args.session in
    let p = (goal.at.returns c).After-check_writable in (
      named-checks h s (key_named h c.args.key) rv_error.KeyHandleInvalid _ _ _
          c.in_ok-row.ensures.open c.in_ok-number.ensures.attributes
          (pass _ _ _ _ (writable p) c.in_ok-check_writable.was
          ∙ skip _ _ c.in_ok-state.ensures.passes),
      ap reply_of c.of_change.ensures,
      ap (λ (d : Decision). d.change) c.of_change.ensures
          ∙ rw (c.in_ok-number.ensures.number, c.in_ok-state.ensures.state) refl,
    )
