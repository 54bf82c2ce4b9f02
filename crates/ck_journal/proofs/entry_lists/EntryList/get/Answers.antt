use Rattle.std.proofs.Common.{sym}
use Rattle.ck_journal.proofs.SegmentLemmas.{get-in_segment, get-no_segment}
use Rattle.ck_journal.proofs.entry_lists.EntryList.get.Goals as goal

pub returns-in_err-get : goal.returns-in_err-get
returns-in_err-get c =
    let inside = c.self.inside in
    let past = rw c.deref.ensures.value at c.in_err-get.ensures.lookup.3 in
    rw (c.from_residual.ensures, ← c.self.view_is)
    (sym (get-no_segment inside.len inside.segments.items c.args.index
    c.self.invariant.filled past))

pub returns : goal.returns
returns c =
    let inside = c.self.inside in
    let found = rw c.deref.ensures.value at c.in_ok-get.ensures.lookup in
    let item = rw c.deref-2.ensures.value at c.get-2.ensures.lookup in
    rw (← c.self.view_is)
    (get-in_segment inside.len inside.segments.items c.args.index
    c.in_ok-get.field-0.now c.get-2.result c.self.invariant.filled found.3.0 found.1 item)
