-- A history is a base and the answered calls since: `start b` is only the base b, and `e ◁ h` is
-- the history h and then the entry e. A front of a history is what is left of it without its last
-- entries, or the whole history.
use Rattle.std.specs.Prelude.{ℕ, suc, Bool, true, false, List, [], ◌∷◌, Option, Some, None, ◌==◌}
use Rattle.std.specs.Prelude.{if◌then◌else◌}
use Rattle.ck_types.specs.declared.return_codes.Rv.{Rv}
use Rattle.ck_types.specs.declared.return_codes.Rv.TheVariants as rv
use Rattle.ck_types.specs.declared.errors.RvError.TheVariants as rv_error
use Rattle.ck_journal.specs.declared.bases.Base.{Base}
use Rattle.ck_journal.specs.declared.calls.Call.{Call}
use Rattle.ck_journal.specs.declared.calls.Entry.{Entry}

infixr 5 ◌◁◌
pub data History : Type 0 where
  start : Base → History
  ◌◁◌ : Entry → History → History

abbrev pub start_of : History → Base
start_of (start b) = b
start_of (e ◁ h) = start_of h

-- the entries, the newest first
abbrev pub entries_of : History → List Entry
entries_of (start b) = []
entries_of (e ◁ h) = e ∷ entries_of h

-- the history, and then these entries, the newest first
abbrev pub followed_by : History → List Entry → History
followed_by h [] = h
followed_by h (e ∷ later) = e ◁ followed_by h later

abbrev pub entry_count : History → ℕ
entry_count (start b) = 0
entry_count (e ◁ h) = suc (entry_count h)

-- the entry of this number, counted from the oldest, which is 1
abbrev pub entry_at : History → ℕ → Option Entry
entry_at (start b) number = None
entry_at (e ◁ h) number = if number == suc (entry_count h) then Some e else entry_at h number

-- a journal: its history, and for how many more entries it has room
pub record JournalState : Type 0 where
  pub history : History
  pub spare : ℕ

-- ---- what an entry says

abbrev pub is_ok : Rv → Bool
is_ok rv.Ok = true
is_ok (rv.Error code) = false

-- the call that was answered OK
abbrev pub done : Entry → Option Call
done e = if is_ok e.reply.rv then Some e.call else None

abbrev pub is_wrong_pin : Rv → Bool
is_wrong_pin (rv.Error rv_error.PinIncorrect) = true
is_wrong_pin other = false

-- the call that was refused for a wrong PIN
abbrev pub wrong_try : Entry → Option Call
wrong_try e = if is_wrong_pin e.reply.rv then Some e.call else None
