-- What a search gives next
use Rattle.std.proofs.Common.{◌≡◌, ℕ, zero, suc, ◌+◌, ◌-◌, ◌<◌, Bool, true, false, List, [], ◌∷◌}
use Rattle.std.proofs.Common.{◌++◌, length, drop, get_or, Some, None, refl, sym, ap, ◌∙◌, add-one}
use Rattle.std.proofs.Common.{arith, append_assoc}
use Rattle.std.proofs.Math.Seq.{drop-cons}
use Rattle.std.specs.Prelude.{filter, map, take, OnErr, Result, Ok, Err}
use Rattle.std.specs.List.{slice_get}
use Rattle.std.proofs.lemmas.Option.{same_Some}
use Rattle.ck_journal.specs.Lists.{is_empty}
use Rattle.ck_journal.specs.Searches.{last_or, number_of_handle}
use Rattle.ck_journal.specs.Histories.{History}
use Rattle.ck_journal.specs.Objects.{handle_of, is_visible}
use Rattle.ck_store.specs.Agreement.{handle_at}

-- what holds also holds of an error
pub on-err : {T E P : Type 0} (r : Result T E) → P → OnErr r P
on-err (Ok value) holds = tt
on-err (Err error) holds = holds

-- a list has no items where what is made of them has none
pub same-empty : {X Y : Type 0} (f : X → Y) (xs : List X) → is_empty (map f xs) ≡ is_empty xs
same-empty f [] = refl
same-empty f (x ∷ xs) = refl

has-item : (before : List ℕ) (x : ℕ) (after : List ℕ)
    → is_empty ((before ++ x ∷ []) ++ after) ≡ false
has-item [] x after = refl
has-item (y ∷ before) x after = refl

-- the handles of the visible objects of these numbers, at most as many as there is room for
abbrev pub next : History → ℕ → List ℕ → List ℕ
next h room numbers = map (handle_of h) (take room (filter (is_visible h) numbers))

module _ (h : History) where
  pub next-visible : (room n handle : ℕ) (numbers : List ℕ) → 0 < room → Some handle ≡ handle_at h n
      → next h room (n ∷ numbers) ≡ handle ∷ next h (room - 1) numbers
  next-visible room n handle numbers some found = visible_case room some (is_visible h n) refl
    where
      visible_case : (room : ℕ) → 0 < room → (visible : Bool) → is_visible h n ≡ visible
          → next h room (n ∷ numbers) ≡ handle ∷ next h (room - 1) numbers
      visible_case zero some visible v = absurd (omega arith)
      visible_case (suc room) some true v =
          let same : Some handle ≡ Some (handle_of h n) = rw v at found in
          let less : suc room - 1 ≡ room = omega arith in
          let is : handle ≡ handle_of h n = cc in
          rw (v, is, less) refl
      visible_case (suc room) some false v =
          let wrong : Some handle ≡ None = rw v at found in
          cc

  pub next-hidden : (room n : ℕ) (numbers : List ℕ) → None ≡ handle_at h n
      → next h room (n ∷ numbers) ≡ next h room numbers
  next-hidden room n numbers none = hidden_case (is_visible h n) refl
    where
      hidden_case : (visible : Bool) → is_visible h n ≡ visible
          → next h room (n ∷ numbers) ≡ next h room numbers
      hidden_case true v =
          let wrong : None ≡ Some (handle_of h n) = rw v at none in
          cc
      hidden_case false v = rw v refl

  -- ---- one number more

  module _ (total handles numbers : List ℕ) (i room : ℕ)
      (is : total ≡ handles ++ next h room (drop i numbers)) (below : i < length numbers) where
    one_more : total ≡ handles ++ next h room (get_or numbers i 0 ∷ drop (i + 1) numbers)
    one_more = is ∙ ap (λ ns. handles ++ next h room ns) (drop-cons numbers i 0 below ∙ ap
        (λ k. get_or numbers i 0 ∷ drop k numbers) (sym (add-one i)))

    -- it is visible and is given
    pub given-next : (handles' : List ℕ) (room' handle : ℕ) → (room ≡ 0 → ⊥)
        → Some handle ≡ handle_at h (get_or numbers i 0) → handles' ≡ handles ++ handle ∷ []
        → room' ≡ room - 1 → total ≡ handles' ++ next h room' (drop (i + 1) numbers)
    given-next handles' room' handle some found more less =
        one_more
        ∙ ap (λ hs. handles ++ hs)
        (next-visible room (get_or numbers i 0) handle (drop (i + 1) numbers)
        (omega arith) found)
        ∙ sym (append_assoc handles (handle ∷ []) (next h (room - 1) (drop (i + 1) numbers)))
        ∙ ap (λ r. (handles ++ handle ∷ []) ++ next h r (drop (i + 1) numbers)) (sym less)
        ∙ ap (λ hs. hs ++ next h room' (drop (i + 1) numbers)) (sym more)

    -- so one is given
    pub some-given : (handle : ℕ) → (room ≡ 0 → ⊥)
        → Some handle ≡ handle_at h (get_or numbers i 0) → is_empty total ≡ false
    some-given handle some found =
        ap is_empty (given-next (handles ++ handle ∷ []) (room - 1) handle some found refl refl)
        ∙ has-item handles handle (next h (room - 1) (drop (i + 1) numbers))

    -- it isn't
    pub passed-next : (handles' : List ℕ) (room' : ℕ) → None ≡ handle_at h (get_or numbers i 0)
        → handles' ≡ handles
        → room' ≡ room → total ≡ handles' ++ next h room' (drop (i + 1) numbers)
    passed-next handles' room' hidden same same_room =
        one_more
        ∙ ap (λ hs. handles ++ hs)
        (next-hidden room (get_or numbers i 0) (drop (i + 1) numbers) hidden)
        ∙ rw (same, same_room) refl

-- ---- where a search stands

-- the number of the last object that is given
pub last_or-some : (handles : List ℕ) (handle before : ℕ)
    → Some handle ≡ slice_get handles (length handles - 1)
    → last_or before (map number_of_handle handles) ≡ number_of_handle handle
last_or-some [] handle before e = cc
last_or-some (only ∷ []) handle before e = ap number_of_handle (sym (same_Some handle only e))
last_or-some (first ∷ next ∷ handles) handle before e =
    let step : suc (suc (length handles)) - 1 ≡ suc (suc (length handles) - 1) = omega arith in
    last_or-some (next ∷ handles) handle (number_of_handle first)
    (e ∙ ap (slice_get (first ∷ next ∷ handles)) step)

-- where none is given it stays
pub last_or-none : (handles : List ℕ) (before : ℕ) → None ≡ slice_get handles (length handles - 1)
    → last_or before (map number_of_handle handles) ≡ before
last_or-none [] before e = refl
last_or-none (only ∷ []) before e = cc
last_or-none (first ∷ next ∷ handles) before e =
    let step : suc (suc (length handles)) - 1 ≡ suc (suc (length handles) - 1) = omega arith in
    absurd (never next handles (e ∙ ap (slice_get (first ∷ next ∷ handles)) step))
  where
    never : (handle : ℕ) (more : List ℕ) → None ≡ slice_get (handle ∷ more) (suc (length more) - 1)
        → ⊥
    never handle [] e = cc
    never handle (next ∷ more) e =
        let step : suc (suc (length more)) - 1 ≡ suc (suc (length more) - 1) = omega arith in
        never next more (e ∙ ap (slice_get (handle ∷ next ∷ more)) step)
