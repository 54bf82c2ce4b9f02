-- When the active operations are what a history says
use Rattle.std.specs.Prelude.{◌≡◌, ℕ, Bool, List, Option, Some, None, find, if◌then◌else◌}
use Rattle.ck_journal.specs.declared.operations.OperationKind.{OperationKind}
use Rattle.ck_journal.specs.Histories.{History}
use Rattle.ck_journal.specs.Operations.{is_active, computation_in, key_in, message_in, is_updated}
use Rattle.ck_journal.specs.Works.{changed_in}
use Rattle.ck_mac.specs.Computations.{Computation}
use Rattle.ck_operations.specs.Rows.{is_operation, HoldsMessageOf, operation_key, has_update}
use Rattle.ck_operations.specs.Rows.{last_change}
use Rattle.ck_operations.specs.declared.active_operations.Operation.{Operation}

-- the active operations of all sessions, and for how many more there is room
pub record OperationsState : Type 0 where
  pub rows : List Operation
  pub spare : ℕ

-- an active operation: what it computes, the number of the key that it computes with, its message
-- so far, whether there was an update, and how many entries there were before the one that last
-- started it or added to its message
pub record ActiveOperation : Type 0 where
  pub computation : Option Computation
  pub key : Option ℕ
  pub message : List ℕ
  pub updated : Bool
  pub changed : ℕ

-- what is so of the session's operation of the kind, where one is active
abbrev pub active_operation : OperationKind → History → ℕ → ActiveOperation
active_operation k h s = record {
  computation = computation_in k h s;
  key = key_in k h s;
  message = message_in k h s;
  updated = is_updated k h s;
  changed = changed_in k h s;
}

-- the session's operation of the kind, where one is active
abbrev pub operation_at : OperationKind → History → ℕ → Option ActiveOperation
operation_at k h s = if is_active k h s then Some (active_operation k h s) else None

pub record OperationAgrees (o : Operation) (a : ActiveOperation) : Type 0 where
  pub message : HoldsMessageOf a.computation o a.message
  pub key : operation_key o ≡ a.key
  pub updated : has_update o ≡ a.updated
  pub changed : last_change o ≡ a.changed

abbrev pub OptionAgrees : Option Operation → Option ActiveOperation → Type 0
OptionAgrees (Some o) (Some a) = OperationAgrees o a
OptionAgrees None None = Unit {0}
OptionAgrees o a = ⊥

-- a session has an operation of a kind exactly where the history has one active, and then it
-- computes what the history says, under the key that it says, and has taken in the pieces that it
-- says; it also knows when it was last changed
pub record OperationsAgree (h : History) (o : OperationsState) : Type 0 where
  pub each : (k : OperationKind) (s : ℕ)
      → OptionAgrees (find (is_operation k s) o.rows) (operation_at k h s)
