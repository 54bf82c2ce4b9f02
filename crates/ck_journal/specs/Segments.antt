-- How the journal keeps its entries: in segments of one length. This mirrors the code.
use Rattle.std.specs.Prelude.{◌≡◌, ℕ, ◌+◌, ◌-◌, ◌*◌, ◌≤◌, List, [], ◌∷◌, length, vec_capacity}
use Rattle.std.specs.Prelude.{flat_map}
use Rattle.std.specs.Global.{Vec}
use Rattle.ck_journal.specs.declared.calls.Entry.{Entry}
use Rattle.ck_journal.specs.declared.entry_lists.TheConstants.{SEGMENT}

-- a list of entries, and for how many more it has room
pub record EntryListState : Type 0 where
  pub items : List Entry
  pub spare : ℕ

-- the entries of the segments, one segment after the other
abbrev pub joined : List (Vec Entry) → List Entry
joined = flat_map (λ s. s.items)

-- the segments have this many entries, and each is full before the next one has any
abbrev pub AreFilled : ℕ → List (Vec Entry) → Type 0
AreFilled len [] = len ≡ 0
AreFilled len (s ∷ later) =
    (length s.items + (len - SEGMENT) ≡ len) × (length s.items ≤ SEGMENT)
    × (SEGMENT ≤ vec_capacity s) × AreFilled (len - SEGMENT) later

pub record IsSegmented (len capacity : ℕ) (segments : List (Vec Entry)) : Type 0 where
  pub filled : AreFilled len segments
  pub capacity_is : capacity ≡ SEGMENT * length segments
  pub within : len ≤ capacity
