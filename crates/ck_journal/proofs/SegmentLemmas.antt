-- Entries in segments: the one at a place, one more entry, and one more segment
use Rattle.std.proofs.Common.{◌≡◌, ℕ, zero, suc, ◌+◌, ◌-◌, ◌*◌, ◌/◌, ◌%◌, ◌<◌, ◌≤◌, inl, inr}
use Rattle.std.proofs.Common.{List, [], ◌∷◌, ◌++◌, Option, Some, None, length, get_or, set, drop}
use Rattle.std.proofs.Common.{refl, sym, ap, ◌∙◌, arith, append_assoc, append-nil, add-one, Bor}
use Rattle.std.specs.Prelude.{slice_get, vec_capacity}
use Rattle.std.specs.Global.{Vec}
use Rattle.std.proofs.lemmas.Bool.{cases_lt}
use Rattle.std.specs.Option.{MatchOption, option_copied}
use Rattle.std.specs.Slice.{IsItemAt}
use Rattle.std.proofs.lemmas.List.{length-append}
use Rattle.std.proofs.lemmas.Option.{slice_get_past, slice_get_read}
use Rattle.ck_journal.specs.declared.calls.Entry.{Entry}
use Rattle.ck_journal.specs.declared.entry_lists.TheConstants.{SEGMENT}
use Rattle.ck_journal.specs.Segments.{AreFilled, joined}

-- ---- lists

no_items : {A : Type 0} (xs : List A) → length xs ≡ 0 → xs ≡ []
no_items [] none = refl
no_items (x ∷ xs) none = absurd (omega arith)

get-left : {A : Type 0} (xs ys : List A) (i : ℕ) → i < length xs
    → slice_get (xs ++ ys) i ≡ slice_get xs i
get-left [] ys i within = absurd (omega arith)
get-left (x ∷ xs) ys zero within = refl
get-left (x ∷ xs) ys (suc i) within = get-left xs ys i (omega arith)

get-right : {A : Type 0} (xs ys : List A) (i : ℕ) → length xs ≤ i
    → slice_get (xs ++ ys) i ≡ slice_get ys (i - length xs)
get-right [] ys i past = ap (slice_get ys) (omega arith)
get-right (x ∷ xs) ys zero past = absurd (omega arith)
get-right (x ∷ xs) ys (suc i) past =
    get-right xs ys i (omega arith) ∙ ap (slice_get ys) (omega arith)

none-past : {A : Type 0} (xs : List A) (i : ℕ) → slice_get xs i ≡ None → length xs ≤ i
none-past [] i none = omega arith
none-past (x ∷ xs) zero none = absurd (cc)
none-past (x ∷ xs) (suc i) none = let rest = none-past xs i none in omega arith

-- what a look-up in a slice gives
copied-item : {A : Type 0} (xs : List A) (i : ℕ) (r : Option (Bor A)) → IsItemAt xs i r
    → option_copied r ≡ slice_get xs i
copied-item xs i None is = sym (slice_get_past xs i is.3)
copied-item xs i (Some x) is = sym (slice_get_read xs (length xs) i x.now refl is.3.0 is.1)

drop-suc : {A : Type 0} (xs : List A) (i : ℕ) (x : A) → slice_get xs i ≡ Some x
    → drop i xs ≡ x ∷ drop (suc i) xs
drop-suc [] i x is = absurd (cc)
drop-suc (y ∷ xs) zero x is = let same : y ≡ x = cc in rw same
drop-suc (y ∷ xs) (suc i) x is = drop-suc xs i x is

-- the item at a place is the first of those from there on
pub yields-item : {A : Type 0} (xs : List A) (i : ℕ) (r : Option (Bor A)) → i < length xs
    → option_copied r ≡ slice_get xs i
    → MatchOption r ((drop i xs ≡ []) × (drop (i + 1) xs ≡ []))
    (λ x. drop i xs ≡ x.now ∷ drop (i + 1) xs)
yields-item xs i None within is =
    let past = none-past xs i (sym is) in absurd (omega arith)
yields-item xs i (Some x) within is = rw add-one (drop-suc xs i x.now (sym is))

-- ---- segments

-- the segments have as many entries as they are filled with
pub length-joined : (len : ℕ) (segments : List (Vec Entry)) → AreFilled len segments
    → length (joined segments) ≡ len
length-joined len [] filled = sym filled
length-joined len (s ∷ later) filled =
    let rest = length-joined (len - SEGMENT) later filled.3 in
    let both = length-append s.items (joined later) in
    omega arith

-- and they have room for those
filled_within : (len : ℕ) (segments : List (Vec Entry)) → AreFilled len segments
    → len ≤ SEGMENT * length segments
filled_within len [] filled = omega arith
filled_within len (s ∷ later) filled =
    let rest = filled_within (len - SEGMENT) later filled.3 in omega arith

-- where a segment isn't full, the later ones have no entries
none_later : (len : ℕ) (s : Vec Entry) (later : List (Vec Entry)) → AreFilled len (s ∷ later)
    → length s.items < SEGMENT → joined later ≡ []
none_later len s later filled short =
    let rest = length-joined (len - SEGMENT) later filled.3 in no_items (joined later) (omega arith)

-- past the entries of a segment there are those of the later ones
get-later : (len : ℕ) (s : Vec Entry) (later : List (Vec Entry)) (index : ℕ)
    → AreFilled len (s ∷ later) → SEGMENT ≤ index
    → slice_get (s.items ++ joined later) index ≡ slice_get (joined later) (index - SEGMENT)
get-later len s later index filled past = elim (cases_lt (length s.items) SEGMENT) [
  | inl short ↦
      let none = none_later len s later filled short in
      rw none (get-right s.items [] index (omega arith))
  | inr full ↦
      get-right s.items (joined later) index (omega arith)
      ∙ ap (λ n. slice_get (joined later) (index - n)) (omega arith)
]

-- before SEGMENT there are only those of the first one
get-first : (len : ℕ) (s : Vec Entry) (later : List (Vec Entry)) (index : ℕ)
    → AreFilled len (s ∷ later) → index < SEGMENT
    → slice_get (s.items ++ joined later) index ≡ slice_get s.items index
get-first len s later index filled below = elim (cases_lt index (length s.items)) [
  | inl within ↦ get-left s.items (joined later) index within
  | inr past ↦
      let none = none_later len s later filled (omega arith) in
      rw none (get-right s.items [] index past ∙ sym (slice_get_past s.items index past))
]

-- a place among all entries is one in a segment
get-joined : (len : ℕ) (segments : List (Vec Entry)) (index : ℕ) (s : Vec Entry)
    → AreFilled len segments → slice_get segments (index / SEGMENT) ≡ Some s
    → slice_get (joined segments) index ≡ slice_get s.items (index % SEGMENT)
get-joined len [] index s filled is = absurd (cc)
get-joined len (t ∷ later) index s filled is = elim (cases_lt index SEGMENT) [
  | inl below ↦
      let first : index / SEGMENT ≡ 0 = omega arith in
      let place : index % SEGMENT ≡ index = omega arith in
      let found = rw first at is in
      let same : t ≡ s = cc in
      rw (place, ← same) (get-first len t later index filled below)
  | inr past ↦
      let next : index / SEGMENT ≡ suc ((index - SEGMENT) / SEGMENT) = omega arith in
      let place : index % SEGMENT ≡ (index - SEGMENT) % SEGMENT = omega arith in
      let found = rw next at is in
      rw place (get-later len t later index filled past
      ∙ get-joined (len - SEGMENT) later (index - SEGMENT) s filled.3 found)
]

-- and no segment has a place that is past all entries
get-joined_none : (len : ℕ) (segments : List (Vec Entry)) (index : ℕ)
    → AreFilled len segments → slice_get segments (index / SEGMENT) ≡ None
    → slice_get (joined segments) index ≡ None
get-joined_none len segments index filled none =
    let past = none-past segments (index / SEGMENT) none in
    let room = filled_within len segments filled in
    let all = length-joined len segments filled in
    slice_get_past (joined segments) index (omega arith)

-- the same of what look-ups give
pub get-in_segment : (len : ℕ) (segments : List (Vec Entry)) (index : ℕ) (s : Vec Entry)
    (r : Option (Bor Entry)) → AreFilled len segments → (index / SEGMENT < length segments)
    → s ≡ get_or segments (index / SEGMENT) s → IsItemAt s.items (index % SEGMENT) r
    → option_copied r ≡ slice_get (joined segments) index
get-in_segment len segments index s r filled within is item =
    let found = slice_get_read segments (length segments) (index / SEGMENT) s refl within is in
    copied-item s.items (index % SEGMENT) r item
    ∙ sym (get-joined len segments index s filled found)

pub get-no_segment : (len : ℕ) (segments : List (Vec Entry)) (index : ℕ) → AreFilled len segments
    → length segments ≤ index / SEGMENT → slice_get (joined segments) index ≡ None
get-no_segment len segments index filled past =
    get-joined_none len segments index filled (slice_get_past segments (index / SEGMENT) past)

-- ---- one more segment

pub filled-new : (len : ℕ) (segments : List (Vec Entry)) (s : Vec Entry) → AreFilled len segments
    → s.items ≡ [] → SEGMENT ≤ vec_capacity s → AreFilled len (segments ++ s ∷ [])
filled-new len [] s filled none room =
    let count : length s.items ≡ 0 = rw none in
    (omega arith, omega arith, room, omega arith)
filled-new len (t ∷ later) s filled none room =
    (filled.0, filled.1, filled.2, filled-new (len - SEGMENT) later s filled.3 none room)

pub joined-new : (segments : List (Vec Entry)) (s : Vec Entry) → s.items ≡ []
    → joined (segments ++ s ∷ []) ≡ joined segments
joined-new [] s none = rw none
joined-new (t ∷ later) s none = ap (λ rest. t.items ++ rest) (joined-new later s none)

-- ---- one more entry, in the segment that isn't full

module _ (e : Entry) (s t : Vec Entry) where
  pub has_room : (len : ℕ) (segments : List (Vec Entry)) → AreFilled len segments
      → len < SEGMENT * length segments → s ≡ get_or segments (len / SEGMENT) s
      → (length s.items < SEGMENT) × (SEGMENT ≤ vec_capacity s)
  has_room len [] filled room is = absurd (omega arith)
  has_room len (x ∷ later) filled room is = elim (cases_lt len SEGMENT) [
    | inl first ↦
        let place : len / SEGMENT ≡ 0 = omega arith in
        let same : s ≡ x = rw place at is in
        rw same (omega arith, filled.2)
    | inr past ↦
        let place : len / SEGMENT ≡ suc ((len - SEGMENT) / SEGMENT) = omega arith in
        let found = rw place at is in
        has_room (len - SEGMENT) later filled.3 (omega arith) found
  ]

  module _ (added : t.items ≡ s.items ++ e ∷ []) (same : vec_capacity t ≡ vec_capacity s) where
    pub filled-more : (len : ℕ) (segments : List (Vec Entry)) → AreFilled len segments
        → len < SEGMENT * length segments → s ≡ get_or segments (len / SEGMENT) s
        → AreFilled (len + 1) (set segments (len / SEGMENT) t)
    filled-more len [] filled room is = absurd (omega arith)
    filled-more len (x ∷ later) filled room is = elim (cases_lt len SEGMENT) [
      | inl first ↦
          let place : len / SEGMENT ≡ 0 = omega arith in
          let found : s ≡ x = rw place at is in
          let none : len - SEGMENT ≡ len + 1 - SEGMENT = omega arith in
          let count : length t.items ≡ length x.items + 1 =
          ap length added ∙ length-append s.items (e ∷ []) ∙ ap (λ y. length y.items + 1) found in
          let capacity : vec_capacity t ≡ vec_capacity x = same ∙ ap vec_capacity found in
          rw place (omega arith, omega arith, omega arith, rw none at filled.3)
      | inr past ↦
          let place : len / SEGMENT ≡ suc ((len - SEGMENT) / SEGMENT) = omega arith in
          let found = rw place at is in
          let next : len + 1 - SEGMENT ≡ len - SEGMENT + 1 = omega arith in
          let rest = filled-more (len - SEGMENT) later filled.3 (omega arith) found in
          rw (place, next) (omega arith, filled.1, filled.2, rest)
    ]

    pub joined-more : (len : ℕ) (segments : List (Vec Entry)) → AreFilled len segments
        → len < SEGMENT * length segments → s ≡ get_or segments (len / SEGMENT) s
        → joined (set segments (len / SEGMENT) t) ≡ joined segments ++ e ∷ []
    joined-more len [] filled room is = absurd (omega arith)
    joined-more len (x ∷ later) filled room is = elim (cases_lt len SEGMENT) [
      | inl first ↦
          let place : len / SEGMENT ≡ 0 = omega arith in
          let found : s ≡ x = rw place at is in
          let none = none_later len x later filled (omega arith) in
          rw (place, added, found, none) (simp append-nil)
      | inr past ↦
          let place : len / SEGMENT ≡ suc ((len - SEGMENT) / SEGMENT) = omega arith in
          let found = rw place at is in
          rw place (ap (λ rest. x.items ++ rest)
          (joined-more (len - SEGMENT) later filled.3 (omega arith) found)
          ∙ sym (append_assoc x.items (joined later) (e ∷ [])))
    ]
