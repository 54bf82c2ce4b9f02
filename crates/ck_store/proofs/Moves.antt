-- How objects keep agreeing with the history
use Rattle.std.proofs.Common.{◌≡◌, ℕ, suc, ◌+◌, ◌<◌, ◌^◌, Bool, true, false, cond, not, ◌&&◌, List}
use Rattle.std.proofs.Common.{[], ◌∷◌, ◌++◌, Option, Some, None, refl, sym, ap, ◌∙◌, add-one}
use Rattle.std.specs.Prelude.{◌==◌, map, filter, filter_map, option_map}
use Rattle.std.proofs.lemmas.Bool.{eqb-true}
use Rattle.ck_objects.specs.KeyStates.{state_of_number}
use Rattle.ck_objects.specs.Records.{with_given, with_state, is_set, changed_error, protections_of}
use Rattle.ck_objects.specs.Templates.{class_of}
use Rattle.ck_objects.specs.declared.attributes.Attribute.TheVariants as attribute
use Rattle.ck_objects.specs.declared.items.Item.{Item}
use Rattle.ck_objects.specs.declared.key_states.KeyState.{KeyState}
use Rattle.ck_types.specs.declared.pins.Pin.{Pin}
use Rattle.ck_objects.specs.declared.templates.Template.{Template}
use Rattle.ck_objects.proofs.ChangeLemmas.{token-in_state, token-kept}
use Rattle.ck_journal.specs.declared.calls.Call.{Call}
use Rattle.ck_journal.specs.declared.calls.Call.TheVariants as call
use Rattle.ck_journal.specs.declared.calls.Entry.{Entry}
use Rattle.ck_journal.specs.Histories.{History, ◌◁◌, done}
use Rattle.ck_journal.specs.Effects.{effects}
use Rattle.ck_journal.specs.Objects.{creates, creations, creation_session, session_of}
use Rattle.ck_journal.specs.Objects.{creation_attributes, object_at, object_after, view_of}
use Rattle.ck_journal.specs.Objects.{in_state}
use Rattle.ck_journal.specs.Objects.{is_session_object, object_named, attributes_named}
use Rattle.ck_journal.specs.Objects.{attributes_or_empty}
use Rattle.ck_journal.proofs.ObjectMoves.{object_rows, creations-created, object_rows-created}
use Rattle.ck_journal.proofs.ObjectMoves.{creations-same, object_rows-later, creations-left}
use Rattle.ck_journal.proofs.ObjectMoves.{object_rows-left}
use Rattle.ck_journal.proofs.Selections.{filter_map-kept, filter_map-changed}
use Rattle.ck_store.specs.Agreement.{StoreState, StoreAgrees}
use Rattle.ck_store.specs.Rows.{ObjectRow, object_row, owning_session, has_number, is_of_session}
use Rattle.ck_store.specs.Rows.{is_session_row, is_private_session_row, with_attributes}
use Rattle.ck_store.specs.Rows.{with_key_state}
use Rattle.ck_store.proofs.Readings.{names-number, attributes_or_empty-number}

-- a test of a row that reads its owner, where that is the session or none
by_owner : (test : ObjectRow → Bool) (ends : Bool → Bool) (k creator : ℕ) (attributes : List Item)
    (t : Bool)
    → ends true ≡ test (record { number = k; session = Some creator; attributes = attributes })
    → ends false ≡ test (record { number = k; session = None; attributes = attributes })
    → cond (ends t) None (Some attributes)
    ≡ cond (test (record {
      number = k;
      session = cond t (Some creator) None;
      attributes = attributes;
    })) None (Some attributes)
by_owner test ends k creator attributes true one none =
    ap (λ t. cond t None (Some attributes)) one
by_owner test ends k creator attributes false one none =
    ap (λ t. cond t None (Some attributes)) none

module _ (h : History) (old : StoreState) (agree : StoreAgrees h old) (e : Entry) where
  -- an entry that leaves objects as they are
  pub objects-left : (effects e).objects ≡ false → StoreAgrees (e ◁ h) old
  objects-left l = record {
    sound = agree.sound;
    rows = agree.rows ∙ sym (object_rows-left e h l object_row);
    creations = agree.creations ∙ sym (creations-left e h l);
  }

  module _ (new : StoreState) where
    pub StoreAgrees-created : (c : Call) (session : ℕ) (attributes : List Item) → done e ≡ Some c
        → creates (Some c) ≡ true → session ≡ creation_session (Some c)
        → attributes ≡ creation_attributes (Some c) (attributes_named h)
        → new.rows ≡ old.rows ++ object_row (old.creations + 1) session attributes ∷ []
        → new.creations ≡ old.creations + 1 → StoreAgrees (e ◁ h) new
    StoreAgrees-created c session attributes d creation by items rows count =
        let t : creates (done e) ≡ true = ap creates d ∙ creation in
        record {
          sound = agree.sound;
          rows =
              rows ∙ rw (by, items, agree.rows, agree.creations, add-one)
              (ap (λ x. object_rows object_row h
              ++ object_row (suc (creations h)) (creation_session x)
              (creation_attributes x (attributes_named h)) ∷ []) (sym d))
              ∙ sym (object_rows-created e h t object_row);
          creations = count ∙ rw (agree.creations, add-one) (sym (creations-created e h t));
        }

    -- ---- a call that creates nothing

    module _ (c : Call) (d : done e ≡ Some c) (no_creation : creates (Some c) ≡ false)
        (count : new.creations ≡ old.creations) where
      -- it changes or ends each object by itself
      StoreAgrees-later : (change : ObjectRow → Option ObjectRow)
          → ((k : ℕ) (attributes : List Item) → object_at h k ≡ Some attributes
          → option_map (object_row k (session_of h k))
          (object_after (Some c) (view_of h) k (session_of h k) attributes)
          ≡ change (object_row k (session_of h k) attributes))
          → new.rows ≡ filter_map change old.rows → StoreAgrees (e ◁ h) new
      StoreAgrees-later change changed rows = record {
        sound = agree.sound;
        rows =
            rows ∙ ap (filter_map change) agree.rows
            ∙ sym (object_rows-later e h (ap creates d ∙ no_creation) object_row change
            (λ k attributes is. ap (λ o. option_map (object_row k (session_of h k))
            (object_after o (view_of h) k (session_of h k) attributes)) d
            ∙ changed k attributes is));
        creations = count ∙ agree.creations ∙ sym (creations-same e h (ap creates d ∙ no_creation));
      }

      -- it ends the objects of a test
      StoreAgrees-ended : (test : ObjectRow → Bool)
          → ((k : ℕ) (attributes : List Item) → object_at h k ≡ Some attributes
          → object_after (Some c) (view_of h) k (session_of h k) attributes
          ≡ cond (test (object_row k (session_of h k) attributes)) None (Some attributes))
          → new.rows ≡ filter (λ row. not (test row)) old.rows → StoreAgrees (e ◁ h) new
      StoreAgrees-ended test ended rows =
          StoreAgrees-later (λ row. cond (test row) None (Some row))
          (λ k attributes is. ap (option_map (object_row k (session_of h k)))
          (ended k attributes is) ∙ end_step (test (object_row k (session_of h k) attributes)) k
          attributes)
          (rows ∙ filter_map-kept test old.rows)
        where
          end_step : (t : Bool) (k : ℕ) (attributes : List Item)
              → option_map (object_row k (session_of h k)) (cond t None (Some attributes))
              ≡ cond t None (Some (object_row k (session_of h k) attributes))
          end_step true k attributes = refl
          end_step false k attributes = refl

    module _ (count : new.creations ≡ old.creations) where
      pub StoreAgrees-cleared : (pin : Pin) → done e ≡ Some (call.InitToken pin) → new.rows ≡ []
          → StoreAgrees (e ◁ h) new
      StoreAgrees-cleared pin d rows =
          StoreAgrees-ended (call.InitToken pin) d refl count (λ row. true)
          (λ k attributes is. refl) (rows ∙ sym (none old.rows))
        where
          none : (rows : List ObjectRow) → filter (λ row. not true) rows ≡ []
          none [] = refl
          none (row ∷ rows) = none rows

      pub StoreAgrees-closed : (session : ℕ) → done e ≡ Some (call.CloseSession session)
          → new.rows ≡ filter (λ row. not (is_of_session session row)) old.rows
          → StoreAgrees (e ◁ h) new
      StoreAgrees-closed session d rows =
          StoreAgrees-ended (call.CloseSession session) d refl count (is_of_session session)
          (λ k attributes is. by_owner (is_of_session session) (λ t. t && session == session_of h k)
          k (session_of h k) attributes (is_session_object attributes) refl refl) rows

      pub StoreAgrees-all_closed : done e ≡ Some call.CloseAllSessions
          → new.rows ≡ filter (λ row. not (is_session_row row)) old.rows → StoreAgrees (e ◁ h) new
      StoreAgrees-all_closed d rows =
          StoreAgrees-ended call.CloseAllSessions d refl count is_session_row
          (λ k attributes is. by_owner is_session_row (λ t. t) k (session_of h k) attributes
          (is_session_object attributes) refl refl) rows

      pub StoreAgrees-logged_out : (session : ℕ) → done e ≡ Some (call.Logout session)
          → new.rows ≡ filter (λ row. not (is_private_session_row row)) old.rows
          → StoreAgrees (e ◁ h) new
      StoreAgrees-logged_out session d rows =
          StoreAgrees-ended (call.Logout session) d refl count is_private_session_row
          (λ k attributes is. by_owner is_private_session_row
          (λ t. t && is_set attributes attribute.Private) k (session_of h k) attributes
          (is_session_object attributes) refl refl) rows

      -- ---- a call that names an object

      module _ (session object number : ℕ) (named : object_named h object ≡ Some number)
          (small : old.creations < 2 ^ 32) where
        pub StoreAgrees-destroyed : done e ≡ Some (call.DestroyObject session object)
            → new.rows ≡ filter (λ row. not (has_number number row)) old.rows
            → StoreAgrees (e ◁ h) new
        StoreAgrees-destroyed d rows =
            StoreAgrees-ended (call.DestroyObject session object) d refl count (has_number number)
            (λ k attributes is. ap (λ t. cond t None (Some attributes))
            (names-number h old agree object small number named k attributes is)) rows

        module _ (template : Template) (given : List Item)
            (is_given : given ≡ with_given template.items (attributes_or_empty h object))
            (passes : changed_error (class_of (attributes_or_empty h object))
            (protections_of (attributes_or_empty h object)) template.items ≡ None) where
          -- it stays a token object or a session object
          token : is_set given attribute.Token
              ≡ is_set (attributes_or_empty h object) attribute.Token
          token =
              ap (λ a. is_set a attribute.Token) is_given
              ∙ token-kept (class_of (attributes_or_empty h object))
              (protections_of (attributes_or_empty h object)) template.items
              (attributes_or_empty h object) passes

          given_case : (k : ℕ) (attributes : List Item) (t : Bool) → object_at h k ≡ Some attributes
              → k == number ≡ t
              → object_row k (session_of h k)
              (cond t (with_given template.items attributes) attributes)
              ≡ cond t (record (object_row k (session_of h k) attributes) { attributes = given })
              (object_row k (session_of h k) attributes)
          given_case k attributes false is same = refl
          given_case k attributes true is same =
              let own =
              attributes_or_empty-number h old agree object small number named k attributes is
              (eqb-true k number same) in
              let here : with_given template.items attributes ≡ given =
              ap (with_given template.items) (sym own) ∙ sym is_given in
              let placed : owning_session (session_of h k) given
              ≡ owning_session (session_of h k) attributes =
              ap (λ t. cond (not t) (Some (session_of h k)) None)
              (token ∙ ap (λ a. is_set a attribute.Token) own) in
              ap (object_row k (session_of h k)) here
              ∙ ap (λ owner. record { number = k; session = owner; attributes = given }) placed

          pub StoreAgrees-changed : done e ≡ Some (call.SetAttributeValue session object template)
              → new.rows ≡ map (with_attributes number given) old.rows → StoreAgrees (e ◁ h) new
          StoreAgrees-changed d rows =
              StoreAgrees-later (call.SetAttributeValue session object template) d refl count
              (λ row. Some (with_attributes number given row))
              (λ k attributes is.
              ap (λ t. Some (object_row k (session_of h k)
              (cond t (with_given template.items attributes) attributes)))
              (names-number h old agree object small number named k attributes is)
              ∙ ap Some (given_case k attributes (k == number) is refl))
              (rows ∙ filter_map-changed (with_attributes number given) old.rows)

        module _ (n : ℕ) (state : KeyState) (is_state : state_of_number n ≡ Some state) where
          state_case : (k creator : ℕ) (attributes : List Item) (t : Bool)
              → object_row k creator (cond t (in_state (state_of_number n) attributes) attributes)
              ≡ cond t
              (record (object_row k creator attributes)
              { attributes = with_state state attributes })
              (object_row k creator attributes)
          state_case k creator attributes false = refl
          state_case k creator attributes true =
              ap (λ o. object_row k creator (in_state o attributes)) is_state
              ∙ ap (λ token. record {
                number = k;
                session = cond (not token) (Some creator) None;
                attributes = with_state state attributes;
              }) (token-in_state state attributes)

          pub StoreAgrees-state_set : done e ≡ Some (call.SetKeyState session object n)
              → new.rows ≡ map (with_key_state number state) old.rows → StoreAgrees (e ◁ h) new
          StoreAgrees-state_set d rows =
              StoreAgrees-later (call.SetKeyState session object n) d refl count
              (λ row. Some (with_key_state number state row))
              (λ k attributes is.
              ap (λ t. Some (object_row k (session_of h k)
              (cond t (in_state (state_of_number n) attributes) attributes)))
              (names-number h old agree object small number named k attributes is)
              ∙ ap Some (state_case k (session_of h k) attributes (k == number)))
              (rows ∙ filter_map-changed (with_key_state number state) old.rows)
