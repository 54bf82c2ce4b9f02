use Rattle.std.proofs.Common.{◌≡◌, ◌-◌, ◌≤◌}
use Rattle.ck_journal.proofs.entry_lists.EntryList.reserve.Given as goal

-- there is more room than before, for the same entries
abbrev pub invariant-loop-self : goal.invariant-loop-self
invariant-loop-self l = record {
  items : l.self.items ≡ l.fn.self.items;
  spare : l.fn.self.spare ≤ l.self.spare;
}

abbrev pub decreases-loop-self : goal.decreases-loop-self
decreases-loop-self l = l.fn.count - l.self.spare
