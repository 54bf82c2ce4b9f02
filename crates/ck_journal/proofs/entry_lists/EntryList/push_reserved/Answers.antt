use Rattle.std.proofs.Common.{arith, ◌<◌, ◌*◌, length}
use Rattle.std.proofs.lemmas.List.{length-set}
use Rattle.ck_journal.proofs.SegmentLemmas.{has_room, filled-more, joined-more}
use Rattle.ck_journal.specs.declared.entry_lists.TheConstants.{SEGMENT}
use Rattle.ck_journal.proofs.entry_lists.EntryList.push_reserved.Goals as goal

pub push_reserved-requires : goal.push_reserved-requires
push_reserved-requires c =
    let inside = c.self.inside in
    let spare = rw (← c.self.view_is) at c.requires in
    let room : inside.len < SEGMENT * length inside.segments.items = omega arith in
    let segment = c.index_mut.result.now in
    let there =
    has_room c.args.entry segment segment inside.len inside.segments.items
    c.self.invariant.filled room c.index_mut.ensures.value in
    let count = segment.ok.0 in
    omega arith

pub invariant_of-self : goal.invariant_of-self
invariant_of-self c =
    let inside = c.self.inside in
    let spare = rw (← c.self.view_is) at c.requires in
    let room : inside.len < SEGMENT * length inside.segments.items = omega arith in
    let pushed = c.push_reserved.ensures in
    record {
      filled = filled-more c.args.entry c.index_mut.result.now c.push_reserved.new.self
          pushed.items pushed.capacity inside.len inside.segments.items c.self.invariant.filled room
          c.index_mut.ensures.value;
      capacity_is = simp length-set c.self.invariant.capacity_is;
      within = omega arith;
    }

pub returns-clause-items : goal.returns-clause-items
returns-clause-items c =
    let inside = c.self.inside in
    let spare = rw (← c.self.view_is) at c.requires in
    let room : inside.len < SEGMENT * length inside.segments.items = omega arith in
    let pushed = c.push_reserved.ensures in
    rw (← c.self.view_is)
    (joined-more c.args.entry c.index_mut.result.now c.push_reserved.new.self
    pushed.items pushed.capacity inside.len inside.segments.items c.self.invariant.filled room
    c.index_mut.ensures.value)
