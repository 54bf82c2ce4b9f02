-- Logs, which have the oldest entry first, and fronts of histories
use Rattle.std.specs.Prelude.{◌≡◌, List, [], ◌∷◌, Option, Some, None}
use Rattle.ck_journal.specs.declared.bases.Base.{Base}
use Rattle.ck_journal.specs.declared.calls.Entry.{Entry}
use Rattle.ck_journal.specs.Histories.{History, start, ◌◁◌, followed_by}

-- the history, and then the entries of a log
abbrev pub extended_by : History → List Entry → History
extended_by h [] = h
extended_by h (e ∷ log) = extended_by (e ◁ h) log

-- the history that starts from the base and has the entries of a log
abbrev pub history_of : Base → List Entry → History
history_of base log = extended_by (start base) log

-- g is a front of h: h is g, and then later entries
abbrev pub IsFront : History → History → Type 0
IsFront g h = (later : List Entry) × (h ≡ followed_by g later)

abbrev pub newest_entry : History → Option Entry
newest_entry (start b) = None
newest_entry (e ◁ h) = Some e
