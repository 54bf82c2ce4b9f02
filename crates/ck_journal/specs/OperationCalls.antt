-- What calls do with digests, signatures and verifications (PKCS #11 Base 3.0, Message digesting
-- functions, Signing and MACing functions, Functions for verifying signatures and MACs)
use Rattle.std.specs.Prelude.{ℕ, Bool, true, false, List, [], ◌∷◌, Option, Some, None, ◌==◌, ◌&&◌}
use Rattle.std.specs.Prelude.{if◌then◌else◌}
use Rattle.ck_journal.specs.declared.calls.Call.{Call}
use Rattle.ck_journal.specs.declared.calls.Call.TheVariants as call
use Rattle.ck_journal.specs.declared.operations.OperationKind.{OperationKind}
use Rattle.ck_journal.specs.declared.operations.OperationKind.TheVariants as kind

abbrev pub same_kind : OperationKind → OperationKind → Bool
same_kind kind.Digest kind.Digest = true
same_kind kind.Sign kind.Sign = true
same_kind kind.Verify kind.Verify = true
same_kind other another = false

-- what a call does with an operation: it starts one, takes in a single-part message and finishes
-- it, adds a piece to a multiple-part message, or finishes such a message
pub data Step : Type 0 where
  initialize : Step
  single_part : List ℕ → Step
  add_piece : List ℕ → Step
  finish : Step

-- a step on the operation of this kind in this session
pub record OperationStep : Type 0 where
  pub kind : OperationKind
  pub session : ℕ
  pub step : Step

abbrev pub on_operation : OperationKind → ℕ → Step → Option OperationStep
on_operation k session step = Some (record { kind = k; session = session; step = step })

abbrev pub operation_step : Call → Option OperationStep
operation_step (call.DigestInit session mechanism) = on_operation kind.Digest session initialize
operation_step (call.Digest session bytes room) =
    on_operation kind.Digest session (single_part bytes)
operation_step (call.DigestUpdate session bytes) =
    on_operation kind.Digest session (add_piece bytes)
operation_step (call.DigestFinal session room) = on_operation kind.Digest session finish
operation_step (call.SignInit session mechanism key) = on_operation kind.Sign session initialize
operation_step (call.Sign session bytes room) = on_operation kind.Sign session (single_part bytes)
operation_step (call.SignUpdate session bytes) = on_operation kind.Sign session (add_piece bytes)
operation_step (call.SignFinal session room) = on_operation kind.Sign session finish
operation_step (call.VerifyInit session mechanism key) =
    on_operation kind.Verify session initialize
operation_step (call.Verify session bytes signature) =
    on_operation kind.Verify session (single_part bytes)
operation_step (call.VerifyUpdate session bytes) =
    on_operation kind.Verify session (add_piece bytes)
operation_step (call.VerifyFinal session signature) = on_operation kind.Verify session finish
operation_step other = None

-- the step, where it is on the operation of this kind in this session
abbrev pub step_in : Option OperationStep → OperationKind → ℕ → Option Step
step_in None k s = None
step_in (Some o) k s = if same_kind o.kind k && o.session == s then Some o.step else None

abbrev pub step_of : Call → OperationKind → ℕ → Option Step
step_of c k s = step_in (operation_step c) k s

-- the piece that a step adds, in a list of its own
abbrev pub piece_in : Option Step → List (List ℕ)
piece_in (Some (add_piece bytes)) = bytes ∷ []
piece_in other = []
