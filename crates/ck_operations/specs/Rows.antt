-- The active operations as contracts see them
use Rattle.std.specs.Prelude.{◌≡◌, ℕ, Bool, true, false, List, ◌++◌, Option, Some, None, ◌==◌}
use Rattle.std.specs.Prelude.{◌&&◌, find, IfSome}
use Rattle.ck_journal.specs.OperationCalls.{same_kind}
use Rattle.ck_journal.specs.Operations.{names_kind}
use Rattle.ck_journal.specs.Works.{HoldsTagOf}
use Rattle.ck_journal.specs.declared.operations.OperationKind.{OperationKind}
use Rattle.ck_mac.specs.Computations.{Computation}
use Rattle.ck_mac.specs.RunningTags.{HoldsTag}
use Rattle.ck_mac.specs.declared.running_tags.RunningTag.{RunningTag}
use Rattle.ck_operations.specs.declared.active_operations.Operation.{Operation}

abbrev pub is_of_session : ℕ → Operation → Bool
is_of_session session o = o.session == session

-- the operation is of this kind in this session
abbrev pub is_operation : OperationKind → ℕ → Operation → Bool
is_operation k session o = same_kind o.kind k && is_of_session session o

-- the operation is in this session and of a kind that the flags name
abbrev pub is_named : ℕ → ℕ → Operation → Bool
is_named session flags o = is_of_session session o && names_kind flags o.kind

-- the operation is of this computation and has taken in the message
abbrev pub HoldsMessage : Computation → Operation → List ℕ → Type 0
HoldsMessage computation o message = HoldsTag computation o.running message

-- something is computed, the operation is of this computation and has taken in the message
abbrev pub HoldsMessageOf : Option Computation → Operation → List ℕ → Type 0
HoldsMessageOf computation o message = HoldsTagOf computation o.running message

-- the number of the key that it computes with; a digest has none
abbrev pub operation_key : Operation → Option ℕ
operation_key o = o.key

-- there was an update
abbrev pub has_update : Operation → Bool
has_update o = o.updated

-- how many entries there were before the one that last started it or added to its message
abbrev pub last_change : Operation → ℕ
last_change o = o.last_change

-- an operation before its first update, started by the entry after the first `entries` ones
abbrev pub new_operation : OperationKind → ℕ → RunningTag → Option ℕ → ℕ → Operation
new_operation k s running key entries = record {
  kind = k;
  session = s;
  running = running;
  key = key;
  updated = false;
  last_change = entries;
}

-- a piece that an update adds: its bytes, the tag of the message with these bytes where that is
-- ready, and how many entries there were before
pub record Piece : Type 0 where
  pub bytes : List ℕ
  pub ready : Option RunningTag
  pub entries : ℕ

-- the tag that is ready is what it should be, after this message
abbrev pub IsReady : Computation → List ℕ → Piece → Type 0
IsReady computation message piece =
    IfSome piece.ready (λ running. HoldsTag computation running (message ++ piece.bytes))

-- the operation after an update
pub record IsUpdateOf (piece : Piece) (old new : Operation) : Type 0 where
  pub kind : new.kind ≡ old.kind
  pub session : new.session ≡ old.session
  pub message : (computation : Computation) (message : List ℕ)
      → IsReady computation message piece → HoldsMessage computation old message
      → HoldsMessage computation new (message ++ piece.bytes)
  pub key : new.key ≡ old.key
  pub updated : new.updated ≡ true
  pub changed : new.last_change ≡ piece.entries

-- the same, where there is an operation
abbrev pub IsUpdateOfOption : Piece → Option Operation → Option Operation → Type 0
IsUpdateOfOption piece (Some old) (Some new) = IsUpdateOf piece old new
IsUpdateOfOption piece None None = Unit {0}
IsUpdateOfOption piece old new = ⊥

-- the first operation of this kind in this session after an update, and the others as they were
pub record IsUpdateOfRows (k : OperationKind) (session : ℕ) (piece : Piece)
    (old new : List Operation) : Type 0 where
  pub added : IsUpdateOfOption piece (find (is_operation k session) old)
      (find (is_operation k session) new)
  pub others : (l : OperationKind) (s : ℕ) → (same_kind k l && session == s) ≡ false
      → find (is_operation l s) new ≡ find (is_operation l s) old
