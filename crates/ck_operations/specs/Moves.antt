-- What an entry does to operations
use Rattle.std.specs.Prelude.{◌≡◌, ℕ, true, false, List, [], ◌∷◌, Option, Some, ◌==◌, ◌&&◌}
use Rattle.std.specs.Prelude.{option_and_then, if◌then◌else◌}
use Rattle.ck_journal.specs.declared.calls.Entry.{Entry}
use Rattle.ck_journal.specs.declared.operations.OperationKind.{OperationKind}
use Rattle.ck_journal.specs.Histories.{History, done}
use Rattle.ck_journal.specs.Objects.{object_named}
use Rattle.ck_journal.specs.OperationCalls.{same_kind}
use Rattle.ck_journal.specs.Operations.{starts, ends, piece_of, names_kind}
use Rattle.ck_journal.specs.Operations.{started_computation, init_key}
use Rattle.ck_mac.specs.Computations.{Computation}

-- nothing, a start, one more piece, or the end
pub data Move : Type 0 where
  Stay : Move
  Start : Move
  Add : List ℕ → Move
  End : Move

-- the entry does this to the session's operation of the kind
abbrev pub Does : Move → Entry → OperationKind → ℕ → Type 0
Does Stay e k s =
    (starts (done e) k s ≡ false) × (ends k e s ≡ false) × (piece_of (done e) k s ≡ [])
Does Start e k s = starts (done e) k s ≡ true
Does (Add bytes) e k s =
    (starts (done e) k s ≡ false) × (ends k e s ≡ false) × (piece_of (done e) k s ≡ bytes ∷ [])
Does End e k s = (starts (done e) k s ≡ false) × (ends k e s ≡ true)

-- the entry does this to one operation, and nothing to any other
abbrev pub OnlyIn : OperationKind → ℕ → Move → Entry → Type 0
OnlyIn kind session move e =
    (k : OperationKind) (s : ℕ)
    → Does (if same_kind kind k && session == s then move else Stay) e k s

-- to all operations of one session, and nothing to any other
abbrev pub OnlyInSession : ℕ → Move → Entry → Type 0
OnlyInSession session move e =
    (k : OperationKind) (s : ℕ) → Does (if session == s then move else Stay) e k s

-- to the operations of one session whose kinds the flags name, and nothing to any other
abbrev pub OnlyNamed : ℕ → ℕ → Move → Entry → Type 0
OnlyNamed session flags move e =
    (k : OperationKind) (s : ℕ)
    → Does (if session == s && names_kind flags k then move else Stay) e k s

-- to all operations
abbrev pub InAll : Move → Entry → Type 0
InAll move e = (k : OperationKind) (s : ℕ) → Does move e k s

-- what the entry starts computes this, under the key of this number, by the history just before it
pub record IsStartOf (h : History) (e : Entry) (c : Computation) (n : Option ℕ) : Type 0 where
  pub computation : started_computation h (done e) ≡ Some c
  pub key : option_and_then (object_named h) (init_key (done e)) ≡ n
