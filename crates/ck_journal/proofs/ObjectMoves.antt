-- How objects move by one entry
use Rattle.std.proofs.Common.{◌≡◌, ℕ, suc, ◌≤◌, Bool, true, false, cond, ◌&&◌, List, [], ◌∷◌, ◌++◌}
use Rattle.std.proofs.Common.{Option, Some, None, All, refl, sym, ap, ◌∙◌, arith}
use Rattle.std.specs.Prelude.{◌==◌, filter_map, find, option_and_then, option_map}
use Rattle.std.specs.List.{cons_option}
use Rattle.std.proofs.lemmas.Bool.{eqb-true}
use Rattle.std.proofs.lemmas.List.Elements.{All-head, All-tail}
use Rattle.ck_objects.specs.declared.items.Item.{Item}
use Rattle.ck_journal.specs.declared.bases.KeptObject.{KeptObject}
use Rattle.ck_journal.specs.declared.calls.Call.{Call}
use Rattle.ck_journal.specs.declared.calls.Call.TheVariants as call
use Rattle.ck_journal.specs.declared.calls.Entry.{Entry}
use Rattle.ck_journal.specs.declared.views.View.{View}
use Rattle.ck_journal.specs.Bases.{IsCreated, IsSound}
use Rattle.ck_journal.specs.Histories.{History, start, ◌◁◌, start_of, done}
use Rattle.ck_journal.specs.Effects.{effects, effects_of}
use Rattle.ck_journal.specs.Objects.{creates, creations, creation_session, session_of}
use Rattle.ck_journal.specs.Objects.{creation_attributes, object_after, object_at, view_of}
use Rattle.ck_journal.specs.Objects.{attributes_named}
use Rattle.ck_journal.specs.Sessions.{numbers}
use Rattle.ck_journal.proofs.NumberTests.{below_suc, same_number}
use Rattle.ck_journal.proofs.Selections.{filter_map-suc, filter_map-same, filter_map-then}

-- ---- what a call does to one object

-- a creation leaves all objects as they are
object_after-creation : (c : Option Call) (view : View) (n creator : ℕ) (attributes : List Item)
    → creates c ≡ true
    → object_after c view n creator attributes ≡ Some attributes
object_after-creation (Some (call.CreateObject session template)) view n creator attributes t = refl
object_after-creation (Some (call.GenerateKey session mechanism template random)) view n creator
    attributes t = refl
object_after-creation (Some (call.CopyObject session object template)) view n creator attributes
    t = refl
object_after-creation other view n creator attributes t = cc

creates-left : (c : Option Call) → (effects_of c).objects ≡ false → creates c ≡ false
creates-left (Some (call.CreateObject session template)) l = cc
creates-left (Some (call.GenerateKey session mechanism template random)) l = cc
creates-left (Some (call.CopyObject session object template)) l = cc
creates-left other l = refl

object_after-left : (c : Option Call) (view : View) (n creator : ℕ) (attributes : List Item)
    → (effects_of c).objects ≡ false
    → object_after c view n creator attributes ≡ Some attributes
object_after-left (Some (call.InitToken pin)) view n creator attributes l = cc
object_after-left (Some (call.CloseSession session)) view n creator attributes l = cc
object_after-left (Some call.CloseAllSessions) view n creator attributes l = cc
object_after-left (Some (call.Logout session)) view n creator attributes l = cc
object_after-left (Some (call.SetAttributeValue session object template)) view n creator attributes
    l = cc
object_after-left (Some (call.SetKeyState session key state)) view n creator attributes l = cc
object_after-left (Some (call.DestroyObject session object)) view n creator attributes l = cc
object_after-left other view n creator attributes l = refl

and_then-same : (after : List Item → Option (List Item))
    → ((attributes : List Item) → after attributes ≡ Some attributes)
    → (object : Option (List Item))
    → option_and_then after object ≡ object
and_then-same after same None = refl
and_then-same after same (Some attributes) = same attributes

-- ---- the rows of the objects that haven't ended

abbrev pub object_row_at : {X : Type 0} → (ℕ → ℕ → List Item → X) → History → ℕ → Option X
object_row_at row h n = option_map (row n (session_of h n)) (object_at h n)

abbrev pub object_rows : {X : Type 0} → (ℕ → ℕ → List Item → X) → History → List X
object_rows row h = filter_map (object_row_at row h) (numbers (creations h))

module _ (e : Entry) (h : History) where
  -- what the entry leaves of an object
  abbrev after : ℕ → List Item → Option (List Item)
  after n = object_after (done e) (view_of h) n (session_of h n)

  row_at-same : {X : Type 0} (row : ℕ → ℕ → List Item → X) (n : ℕ) (object : Option (List Item))
      → session_of (e ◁ h) n ≡ session_of h n → object_at (e ◁ h) n ≡ object
      → object_row_at row (e ◁ h) n ≡ option_map (row n (session_of h n)) object
  row_at-same row n object by is =
      ap (λ s. option_map (row n s) (object_at (e ◁ h) n)) by
      ∙ ap (option_map (row n (session_of h n))) is

  -- ---- a creation

  module _ (t : creates (done e) ≡ true) where
    pub creations-created : creations (e ◁ h) ≡ suc (creations h)
    creations-created = ap (λ b. cond b (suc (creations h)) (creations h)) t

    not_new : (k : ℕ) → k ≤ creations h → (creates (done e) && k == suc (creations h)) ≡ false
    not_new k below = ap (λ b. b && k == suc (creations h)) t ∙ below_suc k (creations h) below

    is_new : (creates (done e) && suc (creations h) == suc (creations h)) ≡ true
    is_new =
        ap (λ b. b && suc (creations h) == suc (creations h)) t ∙ same_number (suc (creations h))

    session_of-below : (k : ℕ) → k ≤ creations h → session_of (e ◁ h) k ≡ session_of h k
    session_of-below k below =
        ap (λ b. cond b (creation_session (done e)) (session_of h k)) (not_new k below)

    object_at-below : (k : ℕ) → k ≤ creations h → object_at (e ◁ h) k ≡ object_at h k
    object_at-below k below =
        ap (λ b. cond b (Some (creation_attributes (done e) (attributes_named h)))
        (option_and_then (after k) (object_at h k))) (not_new k below)
        ∙ and_then-same (after k)
        (λ attributes. object_after-creation (done e) (view_of h) k (session_of h k)
        attributes t) (object_at h k)

    session_of-created : session_of (e ◁ h) (suc (creations h)) ≡ creation_session (done e)
    session_of-created =
        ap (λ b. cond b (creation_session (done e)) (session_of h (suc (creations h)))) is_new

    pub object_at-created : object_at (e ◁ h) (suc (creations h)) ≡ Some
        (creation_attributes (done e) (attributes_named h))
    object_at-created =
        let n = suc (creations h) in
        ap (λ b. cond b (Some (creation_attributes (done e) (attributes_named h)))
        (option_and_then (after n) (object_at h n))) is_new

    -- the new object's row stands last
    pub object_rows-created : {X : Type 0} (row : ℕ → ℕ → List Item → X) →
        object_rows row (e ◁ h) ≡ object_rows row h ++ row (suc (creations h))
        (creation_session (done e))
        (creation_attributes (done e) (attributes_named h)) ∷ []
    object_rows-created row =
        let n = suc (creations h) in
        ap (λ count. filter_map (object_row_at row (e ◁ h)) (numbers count)) creations-created
        ∙ filter_map-suc (object_row_at row (e ◁ h)) (creations h)
        ∙ ap (λ rows. rows ++ cons_option (object_row_at row (e ◁ h) n) [])
        (filter_map-same (object_row_at row (e ◁ h)) (object_row_at row h) (creations h)
        (λ k below. row_at-same row k (object_at h k) (session_of-below k below)
        (object_at-below k below)))
        ∙ ap (λ found. object_rows row h ++ cons_option found [])
        (ap (λ s. option_map (row n s) (object_at (e ◁ h) n)) session_of-created ∙ ap
        (option_map (row n (creation_session (done e)))) object_at-created)

  -- ---- an entry that creates nothing

  module _ (no_creation : creates (done e) ≡ false) where
    pub creations-same : creations (e ◁ h) ≡ creations h
    creations-same = ap (λ t. cond t (suc (creations h)) (creations h)) no_creation

    session_of-later : (k : ℕ) → session_of (e ◁ h) k ≡ session_of h k
    session_of-later k =
        ap (λ t. cond (t && k == suc (creations h)) (creation_session (done e)) (session_of h k))
        no_creation

    pub object_at-later : (k : ℕ) → object_at (e ◁ h) k ≡ option_and_then (after k) (object_at h k)
    object_at-later k =
        ap (λ t. cond (t && k == suc (creations h))
        (Some (creation_attributes (done e) (attributes_named h)))
        (option_and_then (after k) (object_at h k))) no_creation

    change_step : {X : Type 0} (row : List Item → X) (after : List Item → Option (List Item))
        (change : X → Option X) (object : Option (List Item))
        → ((attributes : List Item) → object ≡ Some attributes
        → option_map row (after attributes) ≡ change
        (row attributes))
        → option_map row (option_and_then after object)
        ≡ option_and_then change (option_map row object)
    change_step row after change None changed = refl
    change_step row after change (Some attributes) changed = changed attributes refl

    -- it changes or ends each row by itself
    pub object_rows-later : {X : Type 0} (row : ℕ → ℕ → List Item → X) (change : X → Option X)
        → ((k : ℕ) (attributes : List Item) → object_at h k ≡ Some attributes
        → option_map (row k (session_of h k)) (object_after (done e) (view_of h) k (session_of h k)
        attributes) ≡ change (row k (session_of h k) attributes))
        → object_rows row (e ◁ h) ≡ filter_map change (object_rows row h)
    object_rows-later row change changed =
        ap (λ count. filter_map (object_row_at row (e ◁ h)) (numbers count)) creations-same
        ∙ filter_map-same (object_row_at row (e ◁ h))
        (λ k. option_and_then change (object_row_at row h k))
        (creations h)
        (λ k below. row_at-same row k (option_and_then (after k) (object_at h k))
        (session_of-later k)
        (object_at-later k)
        ∙ change_step (row k (session_of h k)) (after k) change (object_at h k) (changed k))
        ∙ sym (filter_map-then change (object_row_at row h) (numbers (creations h)))

  -- ---- an entry that leaves objects as they are

  module _ (l : (effects e).objects ≡ false) where
    pub creations-left : creations (e ◁ h) ≡ creations h
    creations-left = creations-same (creates-left (done e) l)

    pub object_at-left : (k : ℕ) → object_at (e ◁ h) k ≡ object_at h k
    object_at-left k =
        object_at-later (creates-left (done e) l) k
        ∙ and_then-same (after k)
        (λ attributes. object_after-left (done e) (view_of h) k (session_of h k)
        attributes l) (object_at h k)

    pub object_rows-left : {X : Type 0} (row : ℕ → ℕ → List Item → X)
        → object_rows row (e ◁ h) ≡ object_rows row h
    object_rows-left row =
        ap (λ count. filter_map (object_row_at row (e ◁ h)) (numbers count)) creations-left
        ∙ filter_map-same (object_row_at row (e ◁ h)) (object_row_at row h) (creations h)
        (λ k below. row_at-same row k (object_at h k) (session_of-later (creates-left (done e) l) k)
        (object_at-left k))

-- ---- an object that is there is one of those created

kept_step : (creations n : ℕ) (kept : KeptObject) (rest : Option KeptObject)
    (attributes : List Item) (same : Bool)
    → kept.number == n ≡ same → IsCreated creations kept
    → (option_map (λ (object : KeptObject). object.attributes) rest ≡ Some attributes
    → (1 ≤ n) × (n ≤ creations))
    → option_map (λ (object : KeptObject). object.attributes) (cond same (Some kept) rest)
    ≡ Some attributes
    → (1 ≤ n) × (n ≤ creations)
kept_step creations n kept rest attributes true e created later is =
    let here = eqb-true kept.number n e in
    (omega (arith, created.0), omega (arith, created.1))
kept_step creations n kept rest attributes false e created later is = later is

kept-within : (creations n : ℕ) (attributes : List Item) (objects : List KeptObject)
    → All (IsCreated creations) objects
    → option_map (λ (kept : KeptObject). kept.attributes)
    (find (λ (kept : KeptObject). kept.number == n) objects) ≡ Some attributes
    → (1 ≤ n) × (n ≤ creations)
kept-within creations n attributes [] created is = cc
kept-within creations n attributes (kept ∷ objects) created is =
    kept_step creations n kept
    (find (λ (object : KeptObject). object.number == n) objects) attributes
    (kept.number == n) refl
    (All-head (IsCreated creations) kept objects created)
    (kept-within creations n attributes objects
    (All-tail (IsCreated creations) kept objects created)) is

within_step : (created same : Bool) (n count : ℕ) (fresh attributes : List Item)
    (after : List Item → Option (List Item)) (before : Option (List Item)) → n == suc count ≡ same
    → ((attributes : List Item) → before ≡ Some attributes → (1 ≤ n) × (n ≤ count))
    → cond (created && same) (Some fresh) (option_and_then after before) ≡ Some attributes
    → (1 ≤ n) × (n ≤ cond created (suc count) count)
within_step true true n count fresh attributes after before e below is =
    let s : n ≡ suc count = eqb-true n
    (suc count) e in (omega arith, omega arith)
within_step true false n count fresh attributes after (Some old) e below is =
    let b = below old refl in
    (omega arith, omega arith)
within_step true false n count fresh attributes after None e below is = cc
within_step false same n count fresh attributes after (Some old) e below is = below old refl
within_step false same n count fresh attributes after None e below is = cc

pub object_at-within : (h : History) → IsSound (start_of h) → (n : ℕ) (attributes : List Item)
    → object_at h n ≡ Some attributes → (1 ≤ n) × (n ≤ creations h)
object_at-within (start b) sound n attributes is =
    kept-within b.creations n attributes b.objects sound.numbers is
object_at-within (e ◁ h) sound n attributes is =
    within_step (creates (done e)) (n == suc (creations h)) n (creations h)
    (creation_attributes (done e) (attributes_named h)) attributes
    (object_after (done e) (view_of h) n (session_of h n)) (object_at h n) refl
    (object_at-within h sound n) is
