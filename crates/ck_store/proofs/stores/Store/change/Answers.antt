use Rattle.std.proofs.Common.{◌∙◌, Some, refl, sym, arith}
use Rattle.ck_objects.specs.Records.{with_given}
use Rattle.ck_journal.specs.Objects.{attributes_or_empty}
use Rattle.ck_store.specs.Rows.{with_attributes}
use Rattle.ck_store.proofs.BoundLemmas.{changed-count}
use Rattle.ck_store.proofs.LabelLemmas.{IsChanged-none, with_attributes-other, IsMarked-changed}
use Rattle.ck_store.proofs.Moves.{StoreAgrees-changed}
use Rattle.ck_store.proofs.Readings.{named-row}
use Rattle.ck_store.proofs.PlaceLemmas.{find-key}
use Rattle.ck_store.proofs.IntactLemmas.{objects_at-changed, with_attributes-number}
use Rattle.ck_store.proofs.IntactLemmas.{IsIntact-changed}
use Rattle.ck_store.proofs.stores.Store.change.Goals as goal

pub returns-in_default : goal.returns-in_default
returns-in_default c = record {
  agree = λ h e session object d named passes agree.
      let here = rw (← c.self.view_is) at agree in
      let is_key = (rw c.deref.ensures.value at c.in_default.ensures) c.self.invariant.0.indexed in
      let values = c.args.values.items in
      let given = with_given values (attributes_or_empty h object) in
      rw (← c.self.view_is)
      (StoreAgrees-changed h _ here e _ refl session object c.args.number named c.self.invariant.1
      c.args.values given refl passes d
      (objects_at-changed (with_attributes c.args.number given) c.self.inside.objects
      c.self.inside.objects
      (IsChanged-none c.self.inside.objects c.args.number (with_attributes c.args.number given)
      (with_attributes-other c.args.number given) is_key)
      (with_attributes-number c.args.number given) c.self.inside.index.items));
}

-- the object under the key is the one of the number
pub change_at-mark-requires : goal.change_at-mark-requires
change_at-mark-requires c = λ row is.
    let is_key = (rw c.deref.ensures.value at c.in-Some.ensures) c.self.invariant.0.indexed in
    let asked = rw (← c.self.view_is) at c.requires in
    asked row (sym (find-key c.self.inside.objects c.self.inside.index.items
    c.self.invariant.0.indexed c.args.number (Some c.in-Some.key) is_key) ∙ is)

pub invariant_of-self : goal.invariant_of-self
invariant_of-self c =
    let is_key = (rw c.deref.ensures.value at c.in-Some.ensures) c.self.invariant.0.indexed in
    let given = c.change_at-mark.ensures.given c.args.number is_key in (
      IsIntact-changed c.self.inside.objects c.change_at-mark.new.objects c.args.number
          given.attributes
          given.changed c.self.inside.index.items c.self.inside.lists.items
          c.self.inside.unlisted c.self.inside.creations c.self.invariant.0
          given.private,
      c.self.invariant.1,
      IsMarked-changed c.args.number given.attributes c.self.inside.objects
          c.change_at-mark.new.objects
          given.changed c.in-Some.key c.change_at-mark.result is_key c.self.inside.marks.items
          c.set_mark.new.marks.items c.set_mark.ensures.set c.set_mark.ensures.others
          c.change_at-mark.ensures.mark c.self.invariant.2,
      let count = changed-count (with_attributes c.args.number given.attributes)
          c.self.inside.objects c.change_at-mark.new.objects given.changed in
          let short = c.self.invariant.3 in
          omega (arith, count, short),
    )

pub returns : goal.returns
returns c = record {
  agree = λ h e session object d named passes agree.
      let here = rw (← c.self.view_is) at agree in
      let is_key = (rw c.deref.ensures.value at c.in-Some.ensures) c.self.invariant.0.indexed in
      let given = c.change_at-mark.ensures.given c.args.number is_key in
      let has = is_key.has c.in-Some.key refl in
      let found = sym (find-key c.self.inside.objects c.self.inside.index.items
      c.self.invariant.0.indexed c.args.number (Some c.in-Some.key) is_key) ∙ has.1 in
      let own = named-row h _ here object c.self.invariant.1 c.args.number named has.0
      found in
      let changed = given.given c.in-Some.key has.0 has.1 has.2 in
      StoreAgrees-changed h _ here e _ refl session object c.args.number named c.self.invariant.1
      c.args.values given.attributes (rw own changed) passes d
      (objects_at-changed (with_attributes c.args.number given.attributes) c.self.inside.objects
      c.change_at-mark.new.objects given.changed
      (with_attributes-number c.args.number given.attributes) c.self.inside.index.items);
}
