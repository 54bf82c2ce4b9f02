-- The objects of a base, and the objects as a base has them
use Rattle.std.proofs.Common.{◌≡◌, ℕ, ◌+◌, ◌<◌, ◌≤◌, List, [], ◌∷◌, ◌++◌, Option, Some, None, refl}
use Rattle.std.proofs.Common.{sym, ap, ◌∙◌, arith, take, get_or, length}
use Rattle.std.specs.Prelude.{map, option_map}
use Rattle.std.specs.List.{cons_option}
use Rattle.std.proofs.lemmas.List.{take_more, map-append, get_or_default}
use Rattle.std.proofs.lemmas.List.Elements.{All-get_or, filter_map-append}
use Rattle.slab.specs.Slab.{Slab}
use Rattle.ck_objects.specs.declared.items.Item.{Item}
use Rattle.ck_journal.specs.declared.bases.Base.{Base}
use Rattle.ck_journal.specs.declared.bases.KeptObject.{KeptObject}
use Rattle.ck_journal.specs.Bases.{IsSound, IsCreated}
use Rattle.ck_journal.specs.Cuts.{kept_object, kept_objects}
use Rattle.ck_journal.specs.Histories.{History, start}
use Rattle.ck_journal.specs.Objects.{creations, object_at, session_of}
use Rattle.ck_journal.specs.Sessions.{numbers}
use Rattle.ck_journal.proofs.BaseLemmas.{start-objects}
use Rattle.ck_store.specs.Agreement.{StoreState, StoreAgrees, row_at}
use Rattle.ck_store.specs.Index.{object_at as object_at_place, objects_at}
use Rattle.ck_store.specs.Rows.{ObjectRow, object_row, kept_of}
use Rattle.ck_store.specs.declared.places.Place.{Place}
use Rattle.ck_store.proofs.PlaceLemmas.{filter_map-mapped}

-- an object of a base as a store has it
abbrev pub kept_row : KeptObject → ObjectRow
kept_row kept = object_row kept.number 0 kept.attributes

kept_step : (n creator : ℕ) (object : Option (List Item))
    → option_map (kept_object n) object
    ≡ option_map kept_of (option_map (object_row n creator) object)
kept_step n creator None = refl
kept_step n creator (Some attributes) = refl

row_step : (n : ℕ) (object : Option (List Item))
    → option_map (object_row n 0) object ≡ option_map kept_row (option_map (kept_object n) object)
row_step n None = refl
row_step n (Some attributes) = refl

-- objects that agree with a history are those that it keeps
pub kept_of-agree : (h : History) (s : StoreState) → StoreAgrees h s
    → map kept_of s.rows ≡ kept_objects h
kept_of-agree h s agree =
    ap (map kept_of) agree.rows
    ∙ sym (filter_map-mapped (row_at h) (λ n. option_map (kept_object n) (object_at h n)) kept_of
    (numbers (creations h)) (λ n. kept_step n (session_of h n) (object_at h n)))

-- the objects of a base agree with the history of no calls that starts from it
pub StoreAgrees-started : (b : Base) (s : StoreState) → IsSound b
    → s.rows ≡ map kept_row b.objects → s.creations ≡ b.creations → StoreAgrees (start b) s
StoreAgrees-started b s sound rows count = record {
  sound = sound;
  rows =
      rows ∙ ap (map kept_row) (sym (start-objects b sound))
      ∙ sym (filter_map-mapped (λ n. option_map (kept_object n) (object_at (start b) n))
      (row_at (start b)) kept_row (numbers b.creations)
      (λ n. row_step n (object_at (start b) n)));
  creations = count;
}

-- ---- walks

-- the objects of one more place
pub kept-more : (objects : Slab ObjectRow) (index : List Place) (i : ℕ) (d : Place)
    → i < length index → (o : Option ObjectRow) → o ≡ object_at_place objects (get_or index i d)
    → (kept more : List KeptObject) → kept ≡ map kept_of (objects_at objects (take i index))
    → more ≡ kept ++ map kept_of (cons_option o [])
    → more ≡ map kept_of (objects_at objects (take (i + 1) index))
kept-more objects index i d within o is kept more before added =
    let p = get_or index i d in
    added
    ∙ ap (λ ks. ks ++ map kept_of (cons_option o [])) before
    ∙ ap (λ x. map kept_of (objects_at objects (take i index)) ++ map kept_of (cons_option x [])) is
    ∙ sym (map-append kept_of (objects_at objects (take i index))
    (cons_option (object_at_place objects p) []))
    ∙ ap (map kept_of)
    (sym (filter_map-append (object_at_place objects) (take i index) (p ∷ [])))
    ∙ ap (λ ps. map kept_of (objects_at objects ps)) (sym (take_more index i d within))

-- the store has the first n objects of the base, and no others
pub record HasFirst (b : Base) (n : ℕ) (s : StoreState) : Type 0 where
  pub rows : s.rows ≡ map kept_row (take n b.objects)
  pub within : s.creations ≤ b.creations
  pub later : (k : ℕ) (d : KeptObject) → n ≤ k → k < length b.objects
      → s.creations < (get_or b.objects k d).number

module _ (b : Base) (sound : IsSound b) where
  created : (k : ℕ) (d : KeptObject) → k < length b.objects
      → IsCreated b.creations (get_or b.objects k d)
  created k d within = All-get_or (IsCreated b.creations) b.objects k d within sound.numbers

  pub HasFirst-more : (n : ℕ) (d : KeptObject) (old new : StoreState) → n < length b.objects
      → HasFirst b n old → new.rows ≡ old.rows ++ kept_row (get_or b.objects n d) ∷ []
      → new.creations ≡ (get_or b.objects n d).number → HasFirst b (n + 1) new
  HasFirst-more n d old new within first rows count = record {
    rows =
        rows ∙ ap (λ rs. rs ++ kept_row (get_or b.objects n d) ∷ []) first.rows
        ∙ sym (map-append kept_row (take n b.objects) (get_or b.objects n d ∷ []))
        ∙ ap (map kept_row) (sym (take_more b.objects n d within));
    within =
        let small = (created n d within).1 in
        omega arith;
    later = λ k e from inside.
        let rise = sound.rising n k e (omega arith) inside in
        let same = get_or_default b.objects n e d within in
        let here = count ∙ sym (ap (λ (kept : KeptObject). kept.number) same) in
        omega arith;
  }
