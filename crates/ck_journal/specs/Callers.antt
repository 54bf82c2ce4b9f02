-- Whose calls the entries of a history are
use Rattle.std.specs.Prelude.{ℕ, ◌≤◌, List, [], ◌∷◌, ◌==◌, length, if◌then◌else◌}
use Rattle.ck_journal.specs.declared.calls.Entry.{Entry}
use Rattle.ck_journal.specs.Histories.{History, start, ◌◁◌}

-- the entries of a caller's calls, the newest first
abbrev pub entries_by : ℕ → History → List Entry
entries_by caller (start b) = []
entries_by caller (e ◁ h) =
    if e.caller == caller then e ∷ entries_by caller h else entries_by caller h

-- how many calls of a caller were answered
abbrev pub call_count : ℕ → History → ℕ
call_count caller h = length (entries_by caller h)

-- how many calls of each of the callers 1 to 8 were answered
abbrev pub call_counts : History → List ℕ
call_counts h =
    call_count 1 h ∷ call_count 2 h ∷ call_count 3 h ∷ call_count 4 h
    ∷ call_count 5 h ∷ call_count 6 h ∷ call_count 7 h ∷ call_count 8 h ∷ []

-- no other callers than 1 to n have made calls
abbrev pub AreCallers : ℕ → History → Type 0
AreCallers n (start b) = Unit {0}
AreCallers n (e ◁ h) = (1 ≤ e.caller) × (e.caller ≤ n) × AreCallers n h
