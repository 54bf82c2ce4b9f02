use Rattle.std.proofs.Common.{refl, arith}
use Rattle.ck_store.specs.Rows.{with_key_state}
use Rattle.ck_store.proofs.BoundLemmas.{changed-count}
use Rattle.ck_store.proofs.LabelLemmas.{IsChanged-none, with_key_state-other, IsMarked-in_state}
use Rattle.ck_store.proofs.Moves.{StoreAgrees-state_set}
use Rattle.ck_store.proofs.IntactLemmas.{IsIntact-was, changed-was, objects_at-changed}
use Rattle.ck_store.proofs.IntactLemmas.{with_key_state-number, with_key_state-session}
use Rattle.ck_store.proofs.IntactLemmas.{changed-marks, with_key_state-private}
use Rattle.ck_store.proofs.stores.Store.set_state.Goals as goal

pub invariant_of-self : goal.invariant_of-self
invariant_of-self c =
    let is_key = (rw c.deref.ensures.value at c.in-Some.ensures) c.self.invariant.0.indexed in
    let changed = c.set_state_at.ensures c.args.number is_key in (
      IsIntact-was c.self.inside.objects c.set_state_at.new.objects c.self.inside.index.items
          c.self.inside.lists.items c.self.inside.unlisted c.self.inside.creations
          c.self.invariant.0
          (changed-was (with_key_state c.args.number c.args.state) c.self.inside.objects
          c.set_state_at.new.objects changed (with_key_state-number c.args.number c.args.state)
          (with_key_state-session c.args.number c.args.state))
          (changed-marks (with_key_state c.args.number c.args.state) c.self.inside.objects
          c.set_state_at.new.objects changed (with_key_state-number c.args.number c.args.state)
          c.self.inside.index.items c.self.inside.lists.items c.self.inside.unlisted
          c.self.inside.creations c.self.invariant.0
          (λ key row is. with_key_state-private c.args.number c.args.state row)),
      c.self.invariant.1,
      IsMarked-in_state c.args.number c.args.state c.self.inside.objects c.set_state_at.new.objects
          c.self.inside.marks.items changed c.self.invariant.2,
      let count = changed-count (with_key_state c.args.number c.args.state) c.self.inside.objects
          c.set_state_at.new.objects changed in
          let short = c.self.invariant.3 in
          omega (arith, count, short),
    )

pub returns-in-Some : goal.returns-in-Some
returns-in-Some c = record {
  agree = λ h e session key n d is_state named agree.
      let here = rw (← c.self.view_is) at agree in
      let is_key = (rw c.deref.ensures.value at c.in-Some.ensures) c.self.invariant.0.indexed in
      StoreAgrees-state_set h _ here e _ refl session key c.args.number named c.self.invariant.1 n
      c.args.state is_state d
      (objects_at-changed (with_key_state c.args.number c.args.state) c.self.inside.objects
      c.set_state_at.new.objects (c.set_state_at.ensures c.args.number is_key)
      (with_key_state-number c.args.number c.args.state) c.self.inside.index.items);
}

pub returns-in_default : goal.returns-in_default
returns-in_default c = record {
  agree = λ h e session key n d is_state named agree.
      let here = rw (← c.self.view_is) at agree in
      let is_key = (rw c.deref.ensures.value at c.in_default.ensures) c.self.invariant.0.indexed in
      rw (← c.self.view_is)
      (StoreAgrees-state_set h _ here e _ refl session key c.args.number named c.self.invariant.1 n
      c.args.state is_state d
      (objects_at-changed (with_key_state c.args.number c.args.state) c.self.inside.objects
      c.self.inside.objects
      (IsChanged-none c.self.inside.objects c.args.number
      (with_key_state c.args.number c.args.state)
      (with_key_state-other c.args.number c.args.state) is_key)
      (with_key_state-number c.args.number c.args.state) c.self.inside.index.items));
}
