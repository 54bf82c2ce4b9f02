-- Work on a call's message that is done before the call is made; no answer depends on it
use Rattle.std.specs.Prelude.{◌≡◌, ℕ, Bool, List, [], ◌++◌, Option, Some, None, ◌==◌, ◌||◌, not}
use Rattle.std.specs.Prelude.{length, nat_le, option_map, if◌then◌else◌}
use Rattle.std.specs.Option.{option_map_or}
use Rattle.ck_mac.specs.Computations.{Computation}
use Rattle.ck_mac.specs.RunningTags.{HoldsTag}
use Rattle.ck_mac.specs.declared.running_tags.RunningTag.{RunningTag}
use Rattle.ck_journal.specs.declared.calls.Call.{Call}
use Rattle.ck_journal.specs.declared.calls.Entry.{Entry}
use Rattle.ck_journal.specs.declared.operations.OperationKind.{OperationKind}
use Rattle.ck_journal.specs.declared.works.Work.{Work}
use Rattle.ck_journal.specs.Fronts.{IsFront}
use Rattle.ck_journal.specs.Histories.{History, start, ◌◁◌, done, entry_count}
use Rattle.ck_journal.specs.OperationCalls.{Step, single_part, add_piece, OperationStep}
use Rattle.ck_journal.specs.OperationCalls.{operation_step}
use Rattle.ck_journal.specs.Operations.{starts, piece_of, computation_in, message_in}

-- the kind and the session of the operation that a call starts, goes on with or finishes; None for
-- every other call
abbrev pub operation_of : Call → Option (OperationKind × ℕ)
operation_of c = option_map (λ (o : OperationStep). (o.kind, o.session)) (operation_step c)

-- the bytes that a step brings: a single-part message, or one piece of a multiple-part one
abbrev pub bytes_taken : Step → List ℕ
bytes_taken (single_part bytes) = bytes
bytes_taken (add_piece bytes) = bytes
bytes_taken other = []

-- the bytes that a call brings; none where it has no such step
abbrev pub taken_bytes : Call → List ℕ
taken_bytes c = option_map_or (λ (o : OperationStep). bytes_taken o.step) (operation_step c) []

-- work is begun on a message of 4,096 bytes or more
abbrev pub brings_long_message : Call → Bool
brings_long_message c = nat_le 4096 (length (taken_bytes c))

-- ---- whether an operation is as it was

-- the entry starts the session's operation of the kind, or adds a piece to its message
abbrev pub changes_message : OperationKind → Entry → ℕ → Bool
changes_message k e s = starts (done e) k s || not (length (piece_of (done e) k s) == 0)

-- how many entries there were before the last one that did so; 0 where none did
abbrev pub changed_in : OperationKind → History → ℕ → ℕ
changed_in k (start b) s = 0
changed_in k (e ◁ h) s = if changes_message k e s then entry_count h else changed_in k h s

-- ---- what work is of

-- something is computed, and the running tag is of this computation and has taken in the message
abbrev pub HoldsTagOf : Option Computation → RunningTag → List ℕ → Type 0
HoldsTagOf (Some computation) running message = HoldsTag computation running message
HoldsTagOf None running message = ⊥

-- the running tag computes what the session's operation of the kind does, and has taken in its
-- message and then these bytes
abbrev pub HoldsWith : OperationKind → History → ℕ → List ℕ → RunningTag → Type 0
HoldsWith k h s bytes running =
    HoldsTagOf (computation_in k h s) running (message_in k h s ++ bytes)

-- the running tag computes what the call's operation does, and has taken in the operation's message
abbrev pub HoldsBefore : History → Call → RunningTag → Type 0
HoldsBefore h c running =
    (o : OperationStep) → operation_step c ≡ Some o
    → HoldsTagOf (computation_in o.kind h o.session) running (message_in o.kind h o.session)

-- and then the bytes of the call
abbrev pub HoldsAfter : History → Call → RunningTag → Type 0
HoldsAfter h c running =
    (o : OperationStep) → operation_step c ≡ Some o
    → HoldsWith o.kind h o.session (bytes_taken o.step) running

-- the work on the call's message was begun just after this history
pub record IsBegun (h : History) (c : Call) (w : Work) : Type 0 where
  pub entries : w.entries ≡ entry_count h
  pub holds : HoldsBefore h c w.running

-- it was begun then, and has taken in the bytes of the call
pub record IsDone (h : History) (c : Call) (w : Work) : Type 0 where
  pub entries : w.entries ≡ entry_count h
  pub holds : HoldsAfter h c w.running

-- it was begun at some front of this history, and is done
abbrev pub IsAhead : History → Call → Work → Type 0
IsAhead h c w = (f : History) × IsFront f h × IsDone f c w
