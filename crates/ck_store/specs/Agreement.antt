-- When objects are what a history says
use Rattle.std.specs.Prelude.{◌≡◌, ℕ, List, Option, Some, None, filter_map, option_map}
use Rattle.std.specs.Prelude.{if◌then◌else◌}
use Rattle.ck_journal.specs.Bases.{IsSound}
use Rattle.ck_journal.specs.Histories.{History, start_of}
use Rattle.ck_journal.specs.Objects.{creations, session_of, object_at, is_visible, handle_of}
use Rattle.ck_journal.specs.Sessions.{numbers}
use Rattle.ck_store.specs.Rows.{ObjectRow, object_row}

-- the objects that haven't ended, how many have been created, and for how many more there is room
pub record StoreState : Type 0 where
  pub rows : List ObjectRow
  pub creations : ℕ
  pub spare : ℕ

-- the object of this number, where it has been created and hasn't ended
abbrev pub row_at : History → ℕ → Option ObjectRow
row_at h n = option_map (object_row n (session_of h n)) (object_at h n)

pub record StoreAgrees (h : History) (s : StoreState) : Type 0 where
  pub sound : IsSound (start_of h)
  pub rows : s.rows ≡ filter_map (row_at h) (numbers (creations h))
  pub creations : s.creations ≡ creations h

-- the handle of an object that is visible
abbrev pub handle_at : History → ℕ → Option ℕ
handle_at h n = if is_visible h n then Some (handle_of h n) else None
