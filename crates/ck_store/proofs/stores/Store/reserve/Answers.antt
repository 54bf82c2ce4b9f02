use Rattle.std.proofs.Common.{◌≡◌, ◌⊎◌, inl, ℕ, ◌<◌, ◌^◌, List, Option, Some, get_or, refl, ap}
use Rattle.std.proofs.Common.{sym, ◌∙◌, subst}
use Rattle.slab.specs.Slab.{Slab, get}
use Rattle.ck_store.specs.Index.{IsIntact, IsShort}
use Rattle.ck_store.specs.Labels.{IsMarked}
use Rattle.ck_store.specs.Rows.{ObjectRow}
use Rattle.ck_store.specs.declared.places.Place.{Place}
use Rattle.ck_store.specs.declared.session_lists.SessionList.{SessionList}
use Rattle.ck_store.proofs.LabelLemmas.{IsMarked-fewer, IsMarked-grown}
use Rattle.ck_store.proofs.IntactLemmas.{IsIntact-fewer}
use Rattle.ck_store.proofs.stores.Store.reserve.Goals as goal

pub invariant_of-self : goal.invariant_of-self
invariant_of-self c = (
  c.list_newest.ensures.intact _ _ c.self.invariant.0,
  c.self.invariant.1,
  c.self.invariant.2,
  c.self.invariant.3,
)

-- the invariant stays where the slab, the index and the marks get more room
roomier : (old new : Slab ObjectRow) (index same : List Place) (lists : List SessionList)
    (unlisted : Option Place) (creations : ℕ) (marks grown : List ℕ)
    → new ≡ record old { capacity = new.capacity } → same ≡ index
    → ((key : ℕ) → (get_or grown key 0 ≡ get_or marks key 0) ⊎ (get_or grown key 0 ≡ 0))
    → IsIntact old index lists unlisted creations → creations < 2 ^ 32 → IsMarked old marks
    → IsShort old index
    → IsIntact new same lists unlisted creations × (creations < 2 ^ 32) × IsMarked new grown
    × IsShort new same
roomier old new index same lists unlisted creations marks grown kept is by intact small mark short =
    let was = λ (key : ℕ) (row : ObjectRow) (there : get new key ≡ Some row).
    sym (ap (λ s. get s key) kept) ∙ there in (
      subst (λ ps. IsIntact new ps lists unlisted creations) (sym is)
          (IsIntact-fewer old new index lists unlisted creations intact was),
      small,
      IsMarked-grown new marks grown (IsMarked-fewer old new marks mark was) by,
      rw (kept, is) short,
    )

pub invariant_of-self-in_err-reserve : goal.invariant_of-self-in_err-reserve
invariant_of-self-in_err-reserve c =
    roomier c.self.inside.objects c.reserve.new.self _ _ _ _ _ c.self.inside.marks.items _
    c.reserve.ensures.rest_kept refl (λ key. inl refl)
    (c.list_newest.ensures.intact _ _ c.self.invariant.0)
    c.self.invariant.1 c.self.invariant.2 c.self.invariant.3

pub invariant_of-self-in_err-reserve-2 : goal.invariant_of-self-in_err-reserve-2
invariant_of-self-in_err-reserve-2 c =
    roomier c.self.inside.objects c.reserve.new.self _ _ _ _ _ c.self.inside.marks.items _
    c.reserve.ensures.rest_kept c.reserve-2.ensures.items (λ key. inl refl)
    (c.list_newest.ensures.intact _ _ c.self.invariant.0)
    c.self.invariant.1 c.self.invariant.2 c.self.invariant.3

pub invariant_of-self-2 : goal.invariant_of-self-2
invariant_of-self-2 c =
    roomier c.self.inside.objects c.reserve.new.self _ _ _ _ _ c.self.inside.marks.items _
    c.reserve.ensures.rest_kept c.reserve-2.ensures.items c.grow_marks.ensures
    (c.list_newest.ensures.intact _ _ c.self.invariant.0)
    c.self.invariant.1 c.self.invariant.2 c.self.invariant.3
