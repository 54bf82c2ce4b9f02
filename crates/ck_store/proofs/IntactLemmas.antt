-- How the index and the lists stay intact
use Rattle.std.proofs.Common.{◌≡◌, ◌⊎◌, ℕ, ◌<◌, ◌≤◌, ◌^◌, Bool, true, false, cond, not, List, []}
use Rattle.std.proofs.Common.{◌∷◌, ◌++◌, Option, Some, None, Contains, refl, sym, ap, ◌∙◌, subst}
use Rattle.std.proofs.Common.{inl, inr, arith, get_or, ◌&&◌}
use Rattle.std.specs.Prelude.{◌==◌, is_some, filter, map, option_map, option_and_then}
use Rattle.std.specs.List.{cons_option}
use Rattle.std.specs.Option.{option_map_or}
use Rattle.std.proofs.lemmas.Bool.{cases_eq, ne_eqb, eq-eqb}
use Rattle.std.proofs.lemmas.List.Elements.{Contains-push, Contains-push_cases}
use Rattle.std.proofs.lemmas.List.Elements.{Contains-append_left}
use Rattle.std.proofs.lemmas.List.Elements.{Contains-get_or, filter_map-append}
use Rattle.std.proofs.lemmas.List.Kept.{AllPairs-filter}
use Rattle.std.proofs.lemmas.List.Quantifiers.{all_pairs_push}
use Rattle.std.proofs.lemmas.Option.{same_Some}
use Rattle.slab.specs.Slab.{Slab, get, Updates}
use Rattle.ck_objects.specs.Records.{is_set, with_state}
use Rattle.ck_objects.proofs.ChangeLemmas.{private-in_state}
use Rattle.ck_objects.specs.declared.items.Item.{Item}
use Rattle.ck_objects.specs.declared.key_states.KeyState.{KeyState}
use Rattle.ck_objects.specs.declared.attributes.Attribute.TheVariants as attribute
use Rattle.ck_store.specs.Index.{place, numbered, object_at, objects_at, is_there, IsIndex}
use Rattle.ck_store.specs.Index.{IsListed, IsShort}
use Rattle.ck_store.specs.Index.{IsIntact, IsOwn, IsChanged, LeavesOthers, EndsAll, HasNone}
use Rattle.ck_store.specs.Labels.{IsMarked}
use Rattle.ck_store.specs.Rows.{ObjectRow, has_number, is_ended_by, concerns, is_private_row}
use Rattle.ck_store.specs.Rows.{with_attributes, with_key_state}
use Rattle.ck_store.specs.declared.endings.Ending.{Ending}
use Rattle.ck_store.specs.declared.endings.Ending.TheVariants as ending
use Rattle.ck_store.specs.declared.places.Place.{Place}
use Rattle.ck_store.specs.declared.session_lists.SessionList.{SessionList}
use Rattle.ck_store.proofs.LabelLemmas.{IsMarked-fewer}
use Rattle.ck_store.proofs.PlaceLemmas.{object_at-Some, object_at-here, LeavesOthers-was}
use Rattle.ck_store.proofs.PlaceLemmas.{Contains-passing}
use Rattle.ck_store.proofs.PlaceLemmas.{Contains-unfiltered, filter_map-mapped, filter_map-agree}
use Rattle.ck_store.proofs.PlaceLemmas.{filter_map-there}

-- ---- the index

module _ (objects : Slab ObjectRow) (index : List Place) where
  pub compacted-objects : objects_at objects (filter (is_there objects) index)
      ≡ objects_at objects index
  compacted-objects = filter_map-there (object_at objects) index

  pub compacted-is_index : IsIndex objects index → IsIndex objects (filter (is_there objects) index)
  compacted-is_index is_index = record {
    rises = AllPairs-filter (λ (p : Place) (later : Place). p.number < later.number)
        (is_there objects) index is_index.rises;
    named = λ key row is.
        Contains-passing (is_there objects) index (place row.number key) (is_index.named key row is)
        (ap is_some (object_at-here objects key row is));
  }

-- ---- other objects under the keys

module _ (old new : Slab ObjectRow) (index : List Place) (lists : List SessionList)
    (unlisted : Option Place) (creations : ℕ) (intact : IsIntact old index lists unlisted creations)
  where
    -- each object was there, perhaps with other attributes
    module _ (was : (key : ℕ) (row : ObjectRow) → get new key ≡ Some row
        → (before : ObjectRow) × (get old key ≡ Some before) × (before.number ≡ row.number)
        × (before.session ≡ row.session))
        (marks : (session : ℕ) (private : Bool) (p : Place) (row : ObjectRow)
        → IsListed lists session private p → object_at new p ≡ Some row
        → is_private_row row ≡ private) where
      pub IsIntact-was : IsIntact new index lists unlisted creations
      IsIntact-was = record {
        indexed = record {
          rises = intact.indexed.rises;
          named = λ key row is.
              let w = was key row is in
              subst (λ n. Contains index (place n key)) w.2 (intact.indexed.named key w.0 w.1);
        };
        listed = λ key row session is of_session.
            let w = was key row is in
            subst (λ n. ((private : Bool) × IsListed lists session private (place n key))
            ⊎ (unlisted ≡ Some (place n key))) w.2
            (intact.listed key w.0 session w.1 (w.3 ∙ of_session));
        own = λ session private p row listed is.
            let at = object_at-Some new p row is in
            let w = was p.key row at.0 in
            record {
              owner = sym w.3 ∙ (intact.own session private p w.0 listed
                  (ap (λ n. object_at old (place n p.key)) (sym (w.2 ∙ at.1))
                  ∙ object_at-here old p.key w.0 w.1)).owner;
              mark = marks session private p row listed is;
            };
        index_created = intact.index_created;
        unlisted_created = intact.unlisted_created;
        lists_created = intact.lists_created;
      }

    pub IsIntact-fewer : ((key : ℕ) (row : ObjectRow) → get new key ≡ Some row
        → get old key ≡ Some row) → IsIntact new index lists unlisted creations
    IsIntact-fewer was =
        IsIntact-was (λ key row is. (row, was key row is, refl, refl))
        (λ session private p row listed is.
        let at = object_at-Some new p row is in
        (intact.own session private p row listed
        (ap (λ n. object_at old (place n p.key)) (sym at.1)
        ∙ object_at-here old p.key row (was p.key row at.0))).mark)

module _ (change : ObjectRow → ObjectRow) (old new : Slab ObjectRow)
    (changed : IsChanged change old new)
    (number : (row : ObjectRow) → (change row).number ≡ row.number) where
  pub objects_at-changed : (ps : List Place) → objects_at new ps ≡ map change (objects_at old ps)
  objects_at-changed ps = filter_map-mapped (object_at old) (object_at new) change ps at
    where
      number_step : (n : ℕ) (row : ObjectRow)
          → option_and_then (numbered n) (Some (change row))
          ≡ option_map change (option_and_then (numbered n) (Some row))
      number_step n row =
          ap (λ k. cond (k == n) (Some (change row)) None) (number row)
          ∙ tested (row.number == n)
        where
          tested : (t : Bool) → cond t (Some (change row)) None
              ≡ option_map change (cond t (Some row) None)
          tested true = refl
          tested false = refl

      step : (n : ℕ) (o : Option ObjectRow)
          → option_and_then (numbered n) (option_map change o)
          ≡ option_map change (option_and_then (numbered n) o)
      step n None = refl
      step n (Some row) = number_step n row

      at : (p : Place) → object_at new p ≡ option_map change (object_at old p)
      at p =
          ap (option_and_then (numbered p.number)) (changed p.key)
          ∙ step p.number (get old p.key)

  pub changed-was : ((row : ObjectRow) → (change row).session ≡ row.session)
      → (key : ℕ) (row : ObjectRow) → get new key ≡ Some row
      → (before : ObjectRow) × (get old key ≡ Some before) × (before.number ≡ row.number)
      × (before.session ≡ row.session)
  changed-was session key row is = by_case (get old key) refl (sym (changed key) ∙ is)
    where
      by_case : (o : Option ObjectRow) → get old key ≡ o → option_map change o ≡ Some row
          → (before : ObjectRow) × (get old key ≡ Some before) × (before.number ≡ row.number)
          × (before.session ≡ row.session)
      by_case None e m = absurd (cc)
      by_case (Some before) e m =
          let same : change before ≡ row = same_Some (change before) row m in (
            before,
            e,
            sym (number before) ∙ ap (λ (r : ObjectRow). r.number) same,
            sym (session before) ∙ ap (λ (r : ObjectRow). r.session) same,
          )

  -- where each object stays private or public, each list still says which its objects are
  module _ (index : List Place) (lists : List SessionList) (unlisted : Option Place) (creations : ℕ)
      (intact : IsIntact old index lists unlisted creations)
      (private : (key : ℕ) (row : ObjectRow) → get old key ≡ Some row
      → is_private_row (change row) ≡ is_private_row row) where
    pub changed-marks : (session : ℕ) (mark : Bool) (p : Place) (row : ObjectRow)
        → IsListed lists session mark p → object_at new p ≡ Some row
        → is_private_row row ≡ mark
    changed-marks session mark p row listed is =
        let at = object_at-Some new p row is in
        by_case at.1 (get old p.key) refl (sym (changed p.key) ∙ at.0)
      where
        by_case : row.number ≡ p.number → (o : Option ObjectRow) → get old p.key ≡ o
            → option_map change o ≡ Some row → is_private_row row ≡ mark
        by_case n None e m = absurd (cc)
        by_case n (Some before) e m =
            let same : change before ≡ row = same_Some (change before) row m in
            let numbered : before.number ≡ p.number =
            sym (number before) ∙ ap (λ (r : ObjectRow). r.number) same ∙ n in
            ap is_private_row (sym same)
            ∙ private p.key before e
            ∙ (intact.own session mark p before listed
            (ap (λ k. object_at old (place k p.key)) (sym numbered)
            ∙ object_at-here old p.key before e)).mark

-- ---- other lists

module _ (objects : Slab ObjectRow) (index : List Place) (lists lists' : List SessionList)
    (unlisted unlisted' : Option Place) (creations : ℕ)
    (intact : IsIntact objects index lists unlisted creations)
    (kept : (session : ℕ) (private : Bool) (p : Place) (row : ObjectRow)
    → IsListed lists session private p → object_at objects p ≡ Some row
    → IsListed lists' session private p)
    (newest : (key : ℕ) (row : ObjectRow) (session : ℕ) → get objects key ≡ Some row
    → row.session ≡ Some session → unlisted ≡ Some (place row.number key)
    → ((mark : Bool) × IsListed lists' session mark (place row.number key))
    ⊎ (unlisted' ≡ Some (place row.number key)))
    (only : (session : ℕ) (private : Bool) (p : Place) → IsListed lists' session private p
    → IsListed lists session private p
    ⊎ ((p.number ≤ creations)
    × ((row : ObjectRow) → object_at objects p ≡ Some row → IsOwn session private row)))
    (unlisted_was : (p : Place) → unlisted' ≡ Some p → unlisted ≡ Some p) where
  pub IsIntact-relisted : IsIntact objects index lists' unlisted' creations
  IsIntact-relisted = record {
    indexed = intact.indexed;
    listed = λ key row session is of_session. elim (intact.listed key row session is of_session) [
      | inl before ↦
          inl (
            before.0,
            kept session before.0 (place row.number key) row before.1
                (object_at-here objects key row is),
          )
      | inr last ↦ newest key row session is of_session last
    ];
    own = λ session private p row listed is. elim (only session private p listed) [
      | inl before ↦ intact.own session private p row before is
      | inr added ↦ added.1 row is
    ];
    index_created = intact.index_created;
    unlisted_created = λ p is. intact.unlisted_created p (unlisted_was p is);
    lists_created = λ session private p listed. elim (only session private p listed) [
      | inl before ↦ intact.lists_created session private p before
      | inr added ↦ added.0
    ];
  }

-- ---- a new object, whose number is above all others

module _ (old new : Slab ObjectRow) (index : List Place) (lists : List SessionList)
    (creations number key : ℕ) (row : ObjectRow) (intact : IsIntact old index lists None creations)
    (above : creations < number) (is_number : row.number ≡ number) (vacant : get old key ≡ None)
    (updates : Updates old new key (Some row)) where
  abbrev newest : Place
  newest = place number key

  same_at : (p : Place) → p.number ≤ creations → object_at new p ≡ object_at old p
  same_at p before = elim (cases_eq p.key key) [
    | inl same ↦
        ap (option_and_then (numbered p.number)) (ap (get new) same ∙ updates.changed)
        ∙ ap (λ t. cond t (Some row) None) (ne_eqb row.number p.number (λ e. omega arith))
        ∙ sym (ap (option_and_then (numbered p.number)) (ap (get old) same ∙ vacant))
    | inr other ↦ ap (option_and_then (numbered p.number)) (updates.others p.key other)
  ]

  at_newest : object_at new newest ≡ Some row
  at_newest =
      ap (option_and_then (numbered number)) updates.changed
      ∙ ap (λ t. cond t (Some row) None) (eq-eqb row.number number is_number)

  pub objects_at-created : objects_at new (index ++ newest ∷ [])
      ≡ objects_at old index ++ row ∷ []
  objects_at-created =
      filter_map-append (object_at new) index (newest ∷ [])
      ∙ ap (λ rows. rows ++ cons_option (object_at new newest) [])
      (filter_map-agree (object_at old) (object_at new) index
      (λ p there. same_at p (intact.index_created p there)))
      ∙ ap (λ o. objects_at old index ++ cons_option o []) at_newest

  was_or_newest : (k : ℕ) (r : ObjectRow) → get new k ≡ Some r
      → (get old k ≡ Some r) ⊎ ((k ≡ key) × (r ≡ row))
  was_or_newest k r is = elim (cases_eq k key) [
    | inl same ↦
        inr (same, same_Some r row (sym is ∙ ap (get new) same ∙ updates.changed))
    | inr other ↦ inl (sym (updates.others k other) ∙ is)
  ]

  pub IsIntact-created : IsIntact new (index ++ newest ∷ []) lists (Some newest) number
  IsIntact-created = record {
    indexed = record {
      rises = all_pairs_push (λ (p : Place) (later : Place). p.number < later.number) index newest
          intact.indexed.rises
          (λ k d within.
          let below = intact.index_created (get_or index k d) (Contains-get_or index k d within) in
          omega arith);
      named = λ k r is. elim (was_or_newest k r is) [
        | inl before ↦
            Contains-append_left index (newest ∷ []) (place r.number k)
            (intact.indexed.named k r before)
        | inr this ↦
            subst (Contains (index ++ newest ∷ [])) (named_newest k r this.0 this.1)
            (Contains-push index newest)
      ];
    };
    listed = λ k r session is of_session. elim (was_or_newest k r is) [
      | inl before ↦ elim (intact.listed k r session before of_session) [
        | inl listed ↦ inl listed
        | inr last ↦ absurd (cc)
      ]
      | inr this ↦ inr (ap Some (named_newest k r this.0 this.1))
    ];
    own = λ session private p r listed is.
        intact.own session private p r listed
        (sym (same_at p (intact.lists_created session private p listed)) ∙ is);
    index_created = λ p there. elim (Contains-push_cases index newest p there) [
      | inl before ↦
          let below = intact.index_created p before in
          omega arith
      | inr this ↦ subst (λ (q : Place). q.number ≤ number) this (omega arith)
    ];
    unlisted_created = λ p is.
        subst (λ (q : Place). q.number ≤ number) (same_Some newest p is) (omega arith);
    lists_created = λ session private p listed.
        let below = intact.lists_created session private p listed in
        omega arith;
  }
    where
      named_newest : (k : ℕ) (r : ObjectRow) → k ≡ key → r ≡ row → newest ≡ place r.number k
      named_newest k r same this =
          ap (λ n. place n key) (sym is_number)
          ∙ ap (λ (x : ObjectRow). place x.number key) (sym this)
          ∙ ap (place r.number) (sym same)

-- ---- a higher count of creations

pub IsIntact-later : (objects : Slab ObjectRow) (index : List Place) (lists : List SessionList)
    (unlisted : Option Place) (creations later : ℕ) → creations ≤ later
    → IsIntact objects index lists unlisted creations → IsIntact objects index lists unlisted later
IsIntact-later objects index lists unlisted creations later below intact = record {
  indexed = intact.indexed;
  listed = intact.listed;
  own = intact.own;
  index_created = λ p there.
      let within = intact.index_created p there in
      omega arith;
  unlisted_created = λ p is.
      let within = intact.unlisted_created p is in
      omega arith;
  lists_created = λ session private p listed.
      let within = intact.lists_created session private p listed in
      omega arith;
}

-- ---- sessions that are closed

-- an object that ends is in a list whose objects end
ended_case : (e : Ending) (row : ObjectRow) (o : Option ℕ) → row.session ≡ o
    → is_ended_by e row ≡ true
    → (session : ℕ) × (o ≡ Some session) × ((private : Bool)
    → is_private_row row ≡ private → concerns e session private ≡ true)
ended_case (ending.Session closed) row None is t =
    let wrong : false ≡ true =
    sym (ap (λ x. option_map_or (λ owner. closed == owner) x false) is) ∙ t in
    absurd (cc)
ended_case (ending.Session closed) row (Some session) is t = (
  session,
  refl,
  λ private mark. sym (ap (λ x. option_map_or (λ owner. closed == owner) x false) is) ∙ t,
)
ended_case ending.AllSessions row None is t =
    let wrong : false ≡ true = sym (ap is_some is) ∙ t in
    absurd (cc)
ended_case ending.AllSessions row (Some session) is t = (session, refl, λ private mark. refl)
ended_case ending.Logout row None is t =
    let wrong : false ≡ true = sym (ap (λ x. is_some x && is_private_row row) is) ∙ t in
    absurd (cc)
ended_case ending.Logout row (Some session) is t = (
  session,
  refl,
  λ private mark. sym mark ∙ sym (ap (λ x. is_some x && is_private_row row) is) ∙ t,
)

-- the list keeps its objects
abbrev pub is_kept : Ending → SessionList → Bool
is_kept e list = not (concerns e list.session list.private)

-- an object that stays is in such a list
stays_case : (e : Ending) (list : SessionList) (row : ObjectRow) → row.session ≡ Some list.session
    → is_private_row row ≡ list.private → is_ended_by e row ≡ false → is_kept e list ≡ true
stays_case (ending.Session closed) list row own mark f =
    ap not (sym (ap (λ x. option_map_or (λ owner. closed == owner) x false) own) ∙ f)
stays_case ending.AllSessions list row own mark f =
    let wrong : true ≡ false = sym (ap is_some own) ∙ f in
    absurd (cc)
stays_case ending.Logout list row own mark f =
    ap not (sym mark ∙ sym (ap (λ x. is_some x && is_private_row row) own) ∙ f)

module _ (e : Ending) (old new : Slab ObjectRow) (index : List Place) (lists : List SessionList)
    (unlisted : Option Place) (creations : ℕ) (intact : IsIntact old index lists unlisted creations)
    (left : LeavesOthers (is_ended_by e) old new)
    (lists_end : (session : ℕ) (private : Bool) (p : Place) → IsListed lists session private p
    → concerns e session private ≡ true → HasNone (is_ended_by e) new p)
    (unlisted_ends : (p : Place) → unlisted ≡ Some p → HasNone (is_ended_by e) new p) where
  pub EndsAll-walked : EndsAll (is_ended_by e) new
  EndsAll-walked key row is = by_case (is_ended_by e row) refl
    where
      at : object_at new (place row.number key) ≡ Some row
      at = object_at-here new key row is

      by_case : (t : Bool) → is_ended_by e row ≡ t → is_ended_by e row ≡ false
      by_case false f = f
      by_case true t =
          let of = ended_case e row row.session refl t in
          let was = LeavesOthers-was (is_ended_by e) old new left key row is in
          let p = place row.number key in
          elim (intact.listed key row of.0 was of.1) [
            | inl listed ↦
                lists_end of.0 listed.0 p listed.1
                (of.2 listed.0 (intact.own of.0 listed.0 p row listed.1
                (object_at-here old key row was)).mark) row at
            | inr last ↦ unlisted_ends p last row at
          ]

  pub IsIntact-closed : (lists' : List SessionList)
      → lists' ≡ filter (is_kept e) lists → IsIntact new index lists' unlisted creations
  IsIntact-closed lists' are =
      let fewer =
      IsIntact-fewer old new index lists unlisted creations intact
      (LeavesOthers-was (is_ended_by e) old new left) in
      IsIntact-relisted new index lists lists' unlisted unlisted creations fewer
      (λ session private p row listed is.
      let at = object_at-Some new p row is in
      let own = fewer.own session private p row listed is in
      let stays =
      stays_case e listed.list row (own.owner ∙ ap Some (sym listed.own))
      (own.mark ∙ sym listed.mark)
      (EndsAll-walked p.key row at.0) in
      record {
        list = listed.list;
        among = subst (λ ls. Contains ls listed.list) (sym are)
            (Contains-passing (is_kept e) lists listed.list listed.among stays);
        own = listed.own;
        mark = listed.mark;
        holds = listed.holds;
      })
      (λ key row session is of_session last. inr last)
      (λ session private p listed. inl (record {
        list = listed.list;
        among = Contains-unfiltered (is_kept e) lists listed.list
            (subst (λ ls. Contains ls listed.list) are listed.among);
        own = listed.own;
        mark = listed.mark;
        holds = listed.holds;
      }))
      (λ p is. is)

-- ---- what the methods of a store need

-- objects of a test end, and the index drops the places of ended objects
pub invariant-compacted : (test : ObjectRow → Bool) (old objects : Slab ObjectRow)
    (index index' : List Place) (lists : List SessionList) (unlisted : Option Place)
    (creations : ℕ) (marks : List ℕ) → LeavesOthers test old objects
    → IsIntact objects index lists unlisted creations → creations < 2 ^ 32 → IsMarked old marks
    → (IsIndex objects index → IsIndex objects index')
    → ((p : Place) → Contains index' p → Contains index p)
    → (IsIndex objects index → IsShort objects index')
    → IsIntact objects index' lists unlisted creations × (creations < 2 ^ 32)
    × IsMarked objects marks × IsShort objects index'
invariant-compacted test old objects index index' lists unlisted creations marks left intact small
    marked is_index only short = (
      record {
        indexed = is_index intact.indexed;
        listed = intact.listed;
        own = intact.own;
        index_created = λ p there. intact.index_created p (only p there);
        unlisted_created = intact.unlisted_created;
        lists_created = intact.lists_created;
      },
      small,
      IsMarked-fewer old objects marks marked (LeavesOthers-was test old objects left),
      short intact.indexed,
    )

-- where there is room, no object is unlisted
pub unlisted_none : (unlisted : Option Place) (room : ℕ) → 0 < cond (is_some unlisted) 0 room
    → unlisted ≡ None
unlisted_none None room has = refl
unlisted_none (Some p) room has = absurd (omega arith)

changed_case : (t : Bool) (row : ObjectRow) (attributes : List Item)
    → ((cond t (record row { attributes = attributes }) row).number ≡ row.number)
    × ((cond t (record row { attributes = attributes }) row).session ≡ row.session)
changed_case true row attributes = (refl, refl)
changed_case false row attributes = (refl, refl)

pub with_attributes-number : (number : ℕ) (attributes : List Item) (row : ObjectRow)
    → (with_attributes number attributes row).number ≡ row.number
with_attributes-number number attributes row =
    (changed_case (has_number number row) row attributes).0

pub with_attributes-session : (number : ℕ) (attributes : List Item) (row : ObjectRow)
    → (with_attributes number attributes row).session ≡ row.session
with_attributes-session number attributes row =
    (changed_case (has_number number row) row attributes).1

-- ---- each object stays private or public

private_case : (t : Bool) (row : ObjectRow) (attributes : List Item)
    → (t ≡ true → is_set attributes attribute.Private ≡ is_private_row row)
    → is_private_row (cond t (record row { attributes = attributes }) row) ≡ is_private_row row
private_case true row attributes same = same refl
private_case false row attributes same = refl

pub with_key_state-private : (number : ℕ) (state : KeyState) (row : ObjectRow)
    → is_private_row (with_key_state number state row) ≡ is_private_row row
with_key_state-private number state row =
    private_case (has_number number row) row (with_state state row.attributes)
    (λ t. private-in_state state row.attributes)

pub with_key_state-number : (number : ℕ) (state : KeyState) (row : ObjectRow)
    → (with_key_state number state row).number ≡ row.number
with_key_state-number number state row =
    (changed_case (has_number number row) row (with_state state row.attributes)).0

pub with_key_state-session : (number : ℕ) (state : KeyState) (row : ObjectRow)
    → (with_key_state number state row).session ≡ row.session
with_key_state-session number state row =
    (changed_case (has_number number row) row (with_state state row.attributes)).1

-- ---- an object gets other attributes

module _ (objects new : Slab ObjectRow) (number : ℕ) (attributes : List Item)
    (changed : IsChanged (with_attributes number attributes) objects new)
    (index : List Place) (lists : List SessionList) (unlisted : Option Place) (creations : ℕ)
    (intact : IsIntact objects index lists unlisted creations) where
  pub IsIntact-changed : ((key : ℕ) (row : ObjectRow) → get objects key ≡ Some row
      → has_number number row ≡ true → is_set attributes attribute.Private ≡ is_private_row row)
      → IsIntact new index lists unlisted creations
  IsIntact-changed same =
      IsIntact-was objects new index lists unlisted creations intact
      (changed-was (with_attributes number attributes) objects new changed
      (with_attributes-number number attributes) (with_attributes-session number attributes))
      (changed-marks (with_attributes number attributes) objects new changed
      (with_attributes-number number attributes) index lists unlisted creations intact
      (λ key row is. private_case (has_number number row) row attributes (same key row is)))

-- ---- the newest object gets into its session's list

-- one that is nobody's needs none
pub IsIntact-unowned : (objects : Slab ObjectRow) (index : List Place) (lists : List SessionList)
    (creations : ℕ) (p : Place)
    → ((row : ObjectRow) → object_at objects p ≡ Some row → row.session ≡ None)
    → IsIntact objects index lists (Some p) creations → IsIntact objects index lists None creations
IsIntact-unowned objects index lists creations p unowned intact =
    IsIntact-relisted objects index lists lists (Some p) None creations intact
    (λ session private q row listed is. listed)
    (λ key row session is of_session last.
    let this : p ≡ place row.number key = same_Some p (place row.number key) last in
    let none : row.session ≡ None =
    unowned row (ap (object_at objects) this ∙ object_at-here objects key row is) in
    absurd (cc))
    (λ session private q listed. inl listed) (λ q is. absurd (cc))

module _ (objects : Slab ObjectRow) (index : List Place) (lists lists' : List SessionList)
    (creations : ℕ) (p : Place) (object : ObjectRow) (at : Some object ≡ object_at objects p)
    (session : ℕ) (of_session : Some session ≡ object.session)
    (private : Bool) (of_private : private ≡ is_private_row object)
    (intact : IsIntact objects index lists (Some p) creations)
    (kept : (s : ℕ) (m : Bool) (q : Place) (row : ObjectRow) → IsListed lists s m q
    → object_at objects q ≡ Some row → IsListed lists' s m q)
    (only : (s : ℕ) (m : Bool) (q : Place) → IsListed lists' s m q
    → IsListed lists s m q ⊎ ((s ≡ session) × (m ≡ private) × (q ≡ p))) where
  is_object : (row : ObjectRow) → object_at objects p ≡ Some row → object ≡ row
  is_object row is = same_Some object row (at ∙ is)

  of_row : (row : ObjectRow) → object_at objects p ≡ Some row → row.session ≡ Some session
  of_row row is = ap (λ (r : ObjectRow). r.session) (sym (is_object row is)) ∙ sym of_session

  of_mark : (row : ObjectRow) → object_at objects p ≡ Some row → is_private_row row ≡ private
  of_mark row is = sym (of_private ∙ ap is_private_row (is_object row is))

  only_own : (s : ℕ) (m : Bool) (q : Place) → IsListed lists' s m q
      → IsListed lists s m q
      ⊎ ((q.number ≤ creations)
      × ((row : ObjectRow) → object_at objects q ≡ Some row → IsOwn s m row))
  only_own s m q listed = elim (only s m q listed) [
    | inl before ↦ inl before
    | inr added ↦
        inr (
          subst (λ (x : Place). x.number ≤ creations) (sym added.2)
              (intact.unlisted_created p refl),
          λ row is.
              let here = ap (object_at objects) (sym added.2) ∙ is in
              record {
                owner = of_row row here ∙ ap Some (sym added.0);
                mark = of_mark row here ∙ sym added.1;
              },
        )
  ]

  pub IsIntact-tried : IsIntact objects index lists' (Some p) creations
  IsIntact-tried =
      IsIntact-relisted objects index lists lists' (Some p) (Some p) creations intact kept
      (λ key row s is of_s last. inr last) only_own (λ q is. is)

  pub IsIntact-listed : IsListed lists' session private p
      → IsIntact objects index lists' None creations
  IsIntact-listed listed =
      IsIntact-relisted objects index lists lists' (Some p) None creations intact kept
      (λ key row s is of_s last.
      let this : p ≡ place row.number key = same_Some p (place row.number key) last in
      let same : session ≡ s =
      same_Some session s
      (sym (of_row row (ap (object_at objects) this ∙ object_at-here objects key row is)) ∙ of_s) in
      inl (
        private,
        subst (λ x. IsListed lists' x private (place row.number key)) same
            (subst (IsListed lists' session private) this listed),
      ))
      only_own (λ q is. absurd (cc))
