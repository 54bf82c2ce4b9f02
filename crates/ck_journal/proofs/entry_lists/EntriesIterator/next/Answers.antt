use Rattle.std.proofs.Common.{◌<◌, length, arith}
use Rattle.ck_journal.proofs.SegmentLemmas.{yields-item}
use Rattle.ck_journal.proofs.entry_lists.EntriesIterator.next.Goals as goal

pub returns-clause-steps : goal.returns-clause-steps
returns-clause-steps c =
    let steps = c.in_ok-position.ensures.steps in
    let items = c.self.inside.entries.now.items in
    let start = c.self.inside.positions.start in
    let ends = c.self.invariant in
    let within : start < length items = omega arith in
    rw (← c.self.view_is, steps.1.2)
    (yields-item items start c.get.result within (rw steps.1.1 at c.get.ensures))
