use Rattle.std.proofs.Common.{◌≡◌, not, filter, ◌∙◌, ap, rules}
use Rattle.std.proofs.lemmas.Fn.{filter_same}
use Rattle.ck_store.specs.Rows.{ObjectRow, is_ended_by}
use Rattle.ck_store.proofs.PlaceLemmas.{LeavesOthers-then, HasNone-later, objects_at-left}
use Rattle.ck_store.proofs.IntactLemmas.{EndsAll-walked, IsIntact-closed, is_kept}
use Rattle.ck_store.proofs.IntactLemmas.{invariant-compacted}
use Rattle.ck_store.proofs.stores.Store.end.Goals as goal

pub invariant_of-self : goal.invariant_of-self
invariant_of-self c =
    let left =
    LeavesOthers-then (is_ended_by c.args.ending) c.self.inside.objects c.end_listed.new.objects
    c.end_newest.new.objects c.end_listed.ensures.left c.end_newest.ensures.left in
    let walked = rw c.deref.ensures.value at c.end_listed.ensures.ended in
    let are : c.retain.new.self.items
    ≡ filter (is_kept c.args.ending) c.self.inside.lists.items =
    filter_same _ _ _ (λ x b f' k. search rules) _ _ c.retain.ensures.filtered in
    let intact =
    IsIntact-closed c.args.ending c.self.inside.objects c.end_newest.new.objects
    c.self.inside.index.items c.self.inside.lists.items c.self.inside.unlisted
    c.self.inside.creations c.self.invariant.0 left
    (λ session private p listed t.
    HasNone-later (is_ended_by c.args.ending) c.end_listed.new.objects
    c.end_newest.new.objects c.end_newest.ensures.left p (walked session private p listed t))
    c.end_newest.ensures.ended c.retain.new.self.items are in
    invariant-compacted (is_ended_by c.args.ending) c.self.inside.objects _ _
    c.compact.new.index.items _ _ _ c.self.inside.marks.items left intact c.self.invariant.1
    c.self.invariant.2 c.compact.ensures.is_index c.compact.ensures.only c.compact.ensures.short

pub returns-clause-rows : goal.returns-clause-rows
returns-clause-rows c =
    let left =
    LeavesOthers-then (is_ended_by c.args.ending) c.self.inside.objects c.end_listed.new.objects
    c.end_newest.new.objects c.end_listed.ensures.left c.end_newest.ensures.left in
    let walked = rw c.deref.ensures.value at c.end_listed.ensures.ended in
    c.compact.ensures.objects
    ∙ objects_at-left (is_ended_by c.args.ending) c.self.inside.objects c.end_newest.new.objects
    left
    (EndsAll-walked c.args.ending c.self.inside.objects c.end_newest.new.objects
    c.self.inside.index.items c.self.inside.lists.items c.self.inside.unlisted
    c.self.inside.creations c.self.invariant.0 left
    (λ session private p listed t.
    HasNone-later (is_ended_by c.args.ending) c.end_listed.new.objects
    c.end_newest.new.objects c.end_newest.ensures.left p (walked session private p listed t))
    c.end_newest.ensures.ended) c.self.inside.index.items
    ∙ ap (λ s. filter (λ (row : ObjectRow). not (is_ended_by c.args.ending row)) s.rows)
    c.self.view_is
