use Rattle.std.proofs.Common.{sym}
use Rattle.ck_journal.proofs.SegmentLemmas.{length-joined}
use Rattle.ck_journal.proofs.entry_lists.EntryList.len.Goals as goal

pub returns : goal.returns
returns c =
    let inside = c.self.inside in
    rw (← c.self.view_is)
    (sym (length-joined inside.len inside.segments.items c.self.invariant.filled))
