use Rattle.std.proofs.Common.{arith, rules, ◌≡◌, ◌+◌, ◌∷◌, []}
use Rattle.std.proofs.lemmas.List.{length-append}
use Rattle.ck_journal.proofs.SegmentLemmas.{filled-new}
use Rattle.ck_journal.proofs.entry_lists.EntryList.add_segment.Goals as goal

pub invariant_of-self-2 : goal.invariant_of-self-2
invariant_of-self-2 c =
    let inside = c.self.inside in
    let kept = c.self.invariant in
    let new = c.in_ok-with_capacity.field-0 in
    let is_new = c.in_ok-with_capacity.ensures in
    let more = length-append inside.segments.items (new ∷ []) in
    let grown : c.in_ok-capacity.capacity ≡ inside.capacity + 512 = search rules in
    rw c.in_ok-push.ensures.items record {
      filled = filled-new inside.len inside.segments.items new kept.filled is_new.items
          is_new.capacity;
      capacity_is = omega arith;
      within = omega arith;
    }
