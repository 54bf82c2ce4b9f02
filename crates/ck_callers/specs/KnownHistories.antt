-- What is known of a history besides its entries: since when its board is the same
use Rattle.std.specs.Prelude.{◌≡◌, ℕ, ◌≤◌, ◌<◌, ◌^◌, Bool, IsTrue}
use Rattle.ck_types.specs.TokenLimits.{Ranges}
use Rattle.ck_journal.specs.Boards.{BoardStays, board_of}
use Rattle.ck_journal.specs.Fronts.{IsFront}
use Rattle.ck_journal.specs.Histories.{History, ◌◁◌, entry_count}
use Rattle.ck_journal.specs.declared.calls.Entry.{Entry}

-- a history, and a front of it
pub record KnownState : Type 0 where
  pub history : History
  pub changed : History

-- the board of the history is that of each of its fronts from this one on
abbrev pub KeepsBoard : Ranges → History → History → Type 0
KeepsBoard limits changed history =
    (h : History) → IsFront changed h → IsFront h history
    → board_of limits h ≡ board_of limits history

-- what was shown is a front of the known history that has all entries which changed the board
abbrev pub Covers : KnownState → History → Type 0
Covers k shown = IsFront k.changed shown × IsFront shown k.history

-- the history ends with an entry of this caller, whose call leaves the board as it is, or may
-- change it
pub record HasNext (number : ℕ) (keeps_board : Bool) (before h : History) : Type 0 where
  pub entry : Entry
  pub next : h ≡ entry ◁ before
  pub caller : entry.caller ≡ number
  pub range : (1 ≤ number) × (number ≤ 8)
  pub room : entry_count h < 2 ^ 64
  pub same_board : IsTrue keeps_board → BoardStays entry.call
