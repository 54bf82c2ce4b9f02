use Rattle.std.proofs.Common.{◌++◌, ◌∷◌, [], Some, ap, sym, ◌∙◌, subst, arith, length}
use Rattle.std.proofs.Common.{length-append}
use Rattle.ck_store.specs.Index.{place, objects_at, IsIntact}
use Rattle.std.proofs.lemmas.Option.{same_Some}
use Rattle.ck_store.specs.Labels.{IsMarkOf}
use Rattle.ck_store.specs.Rows.{ObjectRow, object_row}
use Rattle.ck_store.proofs.LabelLemmas.{IsMarked-updated}
use Rattle.ck_store.proofs.IntactLemmas.{IsIntact-created, objects_at-created, unlisted_none}
use Rattle.ck_store.proofs.stores.Store.add.Goals as goal

pub invariant_of-self : goal.invariant_of-self
invariant_of-self c =
    let none = unlisted_none c.self.inside.unlisted _ (rw (← c.self.view_is) at c.requires.room) in
    let intact =
    subst (λ u. IsIntact c.self.inside.objects c.self.inside.index.items c.self.inside.lists.items u
    c.self.inside.creations) none c.self.invariant.0 in
    let items = c.push_reserved.ensures.items in (
      subst (λ ps. IsIntact c.insert_reserved-key.new.self ps c.self.inside.lists.items
          (Some (place c.args.number c.insert_reserved-key.result)) c.args.number) (sym items)
          (IsIntact-created c.self.inside.objects c.insert_reserved-key.new.self
          c.self.inside.index.items c.self.inside.lists.items c.self.inside.creations c.args.number
          c.insert_reserved-key.result c.new-object.result intact
          (rw (← c.self.view_is) at c.requires.later)
          (ap (λ row. row.number) c.new-object.ensures) c.insert_reserved-key.ensures.was_vacant
          c.insert_reserved-key.ensures.updates),
      c.requires.small,
      IsMarked-updated c.self.inside.objects c.insert_reserved-key.new.self
          c.self.inside.marks.items c.set_mark.new.marks.items c.insert_reserved-key.result
          c.mark_of-mark.result c.set_mark.ensures.set c.set_mark.ensures.others
          (λ row is.
          subst (λ attributes. IsMarkOf attributes c.mark_of-mark.result)
          (ap (λ (r : ObjectRow). r.attributes)
          (sym c.new-object.ensures
          ∙ same_Some c.new-object.result row (sym c.insert_reserved-key.ensures.updates.changed
          ∙ is)))
          c.mark_of-mark.ensures)
          (λ other row differs is.
          sym (c.insert_reserved-key.ensures.updates.others other differs) ∙ is)
          c.self.invariant.2,
      let more = length-append c.self.inside.index.items
          (place c.args.number c.insert_reserved-key.result ∷ []) in
          let longer = ap length items in
          let short = c.self.invariant.3 in
          omega (arith, more, longer, short, c.insert_reserved-key.ensures.len),
    )

pub returns-clause-rows : goal.returns-clause-rows
returns-clause-rows c =
    let none = unlisted_none c.self.inside.unlisted _ (rw (← c.self.view_is) at c.requires.room) in
    let intact =
    subst (λ u. IsIntact c.self.inside.objects c.self.inside.index.items c.self.inside.lists.items u
    c.self.inside.creations) none c.self.invariant.0 in
    let pushed = c.push_reserved.ensures.items in
    ap (objects_at c.insert_reserved-key.new.self) pushed
    ∙ objects_at-created c.self.inside.objects c.insert_reserved-key.new.self
    c.self.inside.index.items c.self.inside.lists.items c.self.inside.creations c.args.number
    c.insert_reserved-key.result c.new-object.result intact
    (rw (← c.self.view_is) at c.requires.later)
    (ap (λ row. row.number) c.new-object.ensures) c.insert_reserved-key.ensures.was_vacant
    c.insert_reserved-key.ensures.updates
    ∙ ap (λ row. objects_at c.self.inside.objects c.self.inside.index.items ++ row ∷ [])
    c.new-object.ensures
    ∙ ap (λ s. s.rows ++ object_row c.args.number c.args.session c.args.attributes ∷ [])
    c.self.view_is
