-- How long the index is
use Rattle.std.proofs.Common.{◌≡◌, ℕ, suc, ◌<◌, ◌≤◌, true, List, [], ◌∷◌, length}
use Rattle.std.proofs.Common.{get_or, set, cond, count_by, Option, Some, None, is_some, Contains}
use Rattle.std.proofs.Common.{refl, sym, ap, ◌∙◌, subst, inl, inr, arith}
use Rattle.std.specs.Prelude.{option_map, option_and_then}
use Rattle.std.proofs.lemmas.Bool.{cases_eq}
use Rattle.std.proofs.lemmas.List.Sums.{sum_by-cons, sum_by-set}
use Rattle.std.proofs.lemmas.Option.{same_Some}
use Rattle.slab.specs.Slab.{Slab, get, slab_len, Updates}
use Rattle.slab.proofs.SlabLemmas.{Contains-cons, ContainsKey-within, Updates-set}
use Rattle.ck_store.specs.Index.{numbered, object_at, is_there, IsChanged, PlacesRise}
use Rattle.ck_store.specs.Rows.{ObjectRow}
use Rattle.ck_store.specs.declared.places.Place.{Place}
use Rattle.ck_store.proofs.PlaceLemmas.{object_at-Some}

-- ---- places whose objects are there

there_row : (objects : Slab ObjectRow) (p : Place) → is_there objects p ≡ true
    → (row : ObjectRow) × (get objects p.key ≡ Some row) × (row.number ≡ p.number)
there_row objects p t = by_case (object_at objects p) refl t
  where
    by_case : (o : Option ObjectRow) → object_at objects p ≡ o → is_some o ≡ true
        → (row : ObjectRow) × (get objects p.key ≡ Some row) × (row.number ≡ p.number)
    by_case None is e = absurd (cc)
    by_case (Some row) is e =
        let at = object_at-Some objects p row is in
        (row, at.0, at.1)

-- the first place is below each later one
below_later : (p : Place) (ps : List Place) → PlacesRise (p ∷ ps) → (q : Place) → Contains ps q
    → p.number < q.number
below_later p ps rise q there =
    subst (λ (r : Place). p.number < r.number) there.2
    (rise 0 (suc there.0) q (omega arith) (omega (arith, there.1)))

-- there are at least as many objects as such places
pub places-le-objects : (ps : List Place) (objects : Slab ObjectRow) → PlacesRise ps
    → ((p : Place) → Contains ps p → is_there objects p ≡ true) → length ps ≤ slab_len objects
places-le-objects [] objects rise there = omega arith
places-le-objects (p ∷ ps) objects rise there =
    let first = there_row objects p (there p (0, omega arith, refl)) in
    let within : p.key < length objects.slots =
    ContainsKey-within objects p.key (rw first.1 refl) in
    let fewer : Slab ObjectRow = record objects { slots = set objects.slots p.key None } in
    let updates : Updates objects fewer p.key None =
    Updates-set objects fewer p.key None within refl in
    let counted =
    sum_by-set (λ (o : Option ObjectRow). cond (is_some o) 1 0) objects.slots p.key None None
    within in
    let slot : get_or objects.slots p.key None ≡ Some first.0 = first.1 in
    let less = rw slot at counted in
    let later : length ps ≤ slab_len fewer =
    places-le-objects ps fewer
    (λ i j d before inside. rise (suc i) (suc j) d (omega arith) (omega arith))
    (λ q among.
    let here = there q (Contains-cons p q ps among) in
    let other = there_row objects q here in
    let above = below_later p ps rise q among in
    elim (cases_eq q.key p.key) [
      | inl same ↦
          let row : other.0 ≡ first.0 =
          same_Some other.0 first.0 (sym other.1 ∙ ap (get objects) same ∙ first.1) in
          let number = ap (λ (r : ObjectRow). r.number) row in
          absurd (omega (arith, above, number, other.2, first.2))
      | inr differs ↦
          ap (λ o. is_some (option_and_then (numbered q.number) o)) (updates.others q.key differs)
          ∙ here
    ]) in
    omega (arith, later, less)

-- ---- objects that are changed

count-same : {X : Type 0} (xs ys : List (Option X))
    → ((k : ℕ) → is_some (get_or xs k None) ≡ is_some (get_or ys k None))
    → count_by is_some xs ≡ count_by is_some ys
count-same [] [] same = refl
count-same {X} [] (y ∷ ys) same =
    let rest = count-same [] ys (λ k. same (suc k)) in
    let none = ap {B = ℕ} (λ b. cond b 1 0) (same 0) in
    omega (arith, rest, none, sum_by-cons (λ (o : Option X). cond (is_some o) 1 0) y ys)
count-same {X} (x ∷ xs) [] same =
    let rest = count-same xs [] (λ k. same (suc k)) in
    let none = ap {B = ℕ} (λ b. cond b 1 0) (same 0) in
    omega (arith, rest, none, sum_by-cons (λ (o : Option X). cond (is_some o) 1 0) x xs)
count-same {X} (x ∷ xs) (y ∷ ys) same =
    let rest = count-same xs ys (λ k. same (suc k)) in
    let first = ap {B = ℕ} (λ b. cond b 1 0) (same 0) in
    omega (
      arith,
      rest,
      first,
      sum_by-cons (λ (o : Option X). cond (is_some o) 1 0) x xs,
      sum_by-cons (λ (o : Option X). cond (is_some o) 1 0) y ys,
    )

-- there are as many as before
pub changed-count : (change : ObjectRow → ObjectRow) (old new : Slab ObjectRow)
    → IsChanged change old new → slab_len new ≡ slab_len old
changed-count change old new changed =
    count-same new.slots old.slots
    (λ k. ap is_some (changed k) ∙ still (get old k))
  where
    still : (o : Option ObjectRow) → is_some (option_map change o) ≡ is_some o
    still None = refl
    still (Some row) = refl
