-- The handles of private objects that replies return
use Rattle.std.proofs.Common.{◌≡◌, ℕ, zero, suc, Bool, true, false, cond, not, ◌&&◌}
use Rattle.std.proofs.Common.{List, [], ◌∷◌, Option, Some, None, refl, sym, ap, ◌∙◌, subst, arith}
use Rattle.std.specs.Prelude.{filter, map, take, option_map, unwrap_or}
use Rattle.std.specs.List.{slice_get}
use Rattle.std.specs.Option.{option_map_or}
use Rattle.std.proofs.lemmas.Bool.{false≢true}
use Rattle.std.proofs.lemmas.Option.{same_Some, slice_get-map}
use Rattle.ck_objects.specs.Records.{created_items, generated_items, with_given, is_set}
use Rattle.ck_objects.specs.Records.{placement_of, copied_error, protections_of}
use Rattle.ck_types.specs.Checks.{error_if}
use Rattle.ck_types.specs.Mechanisms.{is_key_generator}
use Rattle.ck_objects.specs.Templates.{class_of, created_error, generated_error}
use Rattle.ck_types.specs.TokenLimits.{Ranges}
use Rattle.ck_objects.specs.declared.attributes.Attribute.TheVariants as attribute
use Rattle.ck_types.specs.declared.errors.RvError.TheVariants as rv_error
use Rattle.ck_objects.specs.declared.items.Item.{Item}
use Rattle.ck_types.specs.declared.users.UserType.TheVariants as user
use Rattle.ck_types.proofs.CheckLemmas.{or_else-none, error_if-none}
use Rattle.ck_journal.specs.declared.calls.Call.{Call}
use Rattle.ck_journal.specs.declared.calls.Call.TheVariants as call
use Rattle.ck_journal.specs.declared.calls.Entry.{Entry}
use Rattle.ck_journal.specs.declared.replies.Body.{Body}
use Rattle.ck_journal.specs.declared.replies.Body.TheVariants as body
use Rattle.ck_journal.specs.declared.replies.Reply.{Reply}
use Rattle.ck_journal.specs.declared.views.View.{View}
use Rattle.ck_journal.specs.Answers.{call_error, allowed_reply, ok, new_handle}
use Rattle.ck_journal.specs.Answers.{session_error, object_error, placement_error}
use Rattle.ck_journal.specs.Answers.{read_only_session_error, prohibited_error}
use Rattle.ck_journal.specs.Answers.{parameter_error, IsLegal}
use Rattle.ck_journal.specs.Histories.{History, ◌◁◌, done}
use Rattle.ck_journal.specs.Effects.{effects_of}
use Rattle.ck_journal.specs.Laws.{IsSoundHistory, IsPrivate, searches, handle_made}
use Rattle.ck_journal.specs.Laws.{PrivateHandlesAreReturnedToTheUser}
use Rattle.ck_journal.specs.Objects.{creates, creations, creation_attributes, creation_session}
use Rattle.ck_journal.specs.Objects.{object_at}
use Rattle.ck_journal.specs.Objects.{attributes_named, view_of, is_user_in, is_visible}
use Rattle.ck_journal.specs.Objects.{is_visible_with, handle_with, handle_of}
use Rattle.ck_journal.specs.Searches.{handles_in, search_rest, remaining_objects}
use Rattle.ck_journal.specs.Searches.{number_of_handle}
use Rattle.ck_journal.specs.Sessions.{login}
use Rattle.ck_journal.proofs.LaterLemmas.{just_before}
use Rattle.ck_journal.proofs.LegalLemmas.{passed-done, allowed-done, later-passes, object-found}
use Rattle.ck_journal.proofs.LegalLemmas.{creations-bound, is_user-some}
use Rattle.ck_journal.proofs.NameLemmas.{handle-number, some_passes}
use Rattle.ck_journal.proofs.ObjectMoves.{object_at-within, object_at-created, creations-created}
use Rattle.ck_journal.proofs.ObjectMoves.{object_at-left}
use Rattle.ck_journal.proofs.SearchMoves.{view_of-left}
use Rattle.ck_journal.proofs.VisibilityLemmas.{visible-login}

-- ---- a new object

-- an object that passes the check of its placement and is private stands where the user is
placed-user : (h : History) (session : ℕ) (attributes : List Item)
    → placement_error h session (placement_of attributes) ≡ None
    → is_set attributes attribute.Private ≡ true → is_user_in h ≡ true
placed-user h session attributes p private =
    let rest = later-passes (read_only_session_error h session (placement_of attributes)) _ p in
    in-by (is_set attributes attribute.Private) (is_user_in h)
    (error_if-none _ rv_error.UserNotLoggedIn
    (or_else-none (error_if (is_set attributes attribute.Private && not (is_user_in h))
    rv_error.UserNotLoggedIn) None rest).0) private
  where
    in-by : (private user_in : Bool) → (private && not user_in) ≡ false → private ≡ true
        → user_in ≡ true
    in-by true true e p = refl
    in-by true false e p = cc
    in-by false user_in e p = cc

-- a creation passes the check of its placement
pub creation-placed : (limits : Ranges) (h : History) (c : Call) → call_error limits h c ≡ None
    → creates (Some c) ≡ true
    → placement_error h (creation_session (Some c))
    (placement_of (creation_attributes (Some c) (attributes_named h))) ≡ None
creation-placed limits h (call.CreateObject session template) p t =
    (or_else-none (placement_error h session (placement_of (created_items template.items))) _
    (later-passes (created_error template.items) _
    (later-passes (session_error h session) _ p))).0
creation-placed limits h (call.GenerateKey session mechanism template random) p t =
    (or_else-none
    (placement_error h session (placement_of (generated_items template.items random))) _
    (later-passes (generated_error template.items random) _
    (later-passes (parameter_error mechanism) _
    (later-passes (error_if (not (is_key_generator mechanism.kind)) rv_error.MechanismInvalid) _
    (later-passes (session_error h session) _ p))))).0
creation-placed limits h (call.CopyObject session object template) p t =
    let found = object-found (attributes_named h object) _ rv_error.ObjectHandleInvalid
    (or_else-none (object_error h object _) None (later-passes (session_error h session) _ p)).0 in
    let copied = copied_error (class_of found.0) (protections_of found.0) template.items in
    let placed =
    (or_else-none (placement_error h session (placement_of (with_given template.items found.0))) _
    (later-passes copied _
    (later-passes (prohibited_error attribute.Copyable found.0) _ found.2))).0 in
    subst (λ o. placement_error h session
    (placement_of (with_given template.items (unwrap_or o []))) ≡ None) (sym found.1) placed
creation-placed limits h other _ t = absurd (false≢true t)

pub creation-user : (limits : Ranges) (h : History) (c : Call) → call_error limits h c ≡ None
    → creates (Some c) ≡ true
    → is_set (creation_attributes (Some c) (attributes_named h)) attribute.Private ≡ true
    → is_user_in h ≡ true
creation-user limits h c p t =
    placed-user h (creation_session (Some c))
    (creation_attributes (Some c) (attributes_named h)) (creation-placed limits h c p t)

-- its handle is returned
creation-reply : (limits : Ranges) (h : History) (c : Call) → creates (Some c) ≡ true
    → allowed_reply limits h c
    ≡ ok (body.Handle (new_handle h (creation_attributes (Some c) (attributes_named h))))
creation-reply limits h (call.CreateObject session template) t = refl
creation-reply limits h (call.GenerateKey session mechanism template random) t = refl
creation-reply limits h (call.CopyObject session object template) t = refl
creation-reply limits h other t = absurd (false≢true t)

done-some : (d : Option Call) (test : Option Call → Bool) → test None ≡ false → test d ≡ true
    → (c : Call) × (d ≡ Some c)
done-some None test none t = absurd (false≢true (sym none ∙ t))
done-some (Some c) test none t = (c, refl)

module _ (e : Entry) (h : History) where
  -- the attributes of the object that an entry creates
  abbrev pub new-attributes : List Item
  new-attributes = creation_attributes (done e) (attributes_named h)

  pub creation-body : (limits : Ranges) → IsLegal limits (e ◁ h) → creates (done e) ≡ true
      → e.reply.body ≡ body.Handle (new_handle h new-attributes)
  creation-body limits legal t =
      let did = done-some (done e) creates refl t in
      let created : creates (Some did.0) ≡ true = subst (λ d. creates d ≡ true) did.1 t in
      let reply = allowed-done limits e h legal did.0 did.1
      ∙ creation-reply limits h did.0 created in
      ap (λ (r : Reply). r.body) reply
      ∙ ap (λ d. body.Handle (new_handle h (creation_attributes d (attributes_named h))))
      (sym did.1)

  -- and its number
  pub new-number : (limits : Ranges) → IsSoundHistory limits (e ◁ h) → creates (done e) ≡ true
      → (handle : ℕ) → new_handle h new-attributes ≡ handle
      → suc (creations h) ≡ number_of_handle handle
  new-number limits good t handle fresh =
      let below = creations-bound limits good.in_range (e ◁ h) good.sound good.legal in
      let counted = creations-created e h t in
      handle-number (view_of h) new-attributes handle (suc (creations h)) (omega arith) fresh

pub only-handle : (given : Body) (own place handle : ℕ) → given ≡ body.Handle own
    → slice_get (handle_made given) place ≡ Some handle → own ≡ handle
only-handle given own place handle is e =
    at place (subst (λ b. slice_get (handle_made b) place ≡ Some handle) is e)
  where
    at : (place : ℕ) → slice_get (own ∷ []) place ≡ Some handle → own ≡ handle
    at zero e = same_Some own handle e
    at (suc place) e = cc

-- ---- what a search finds

passes-at : (test : ℕ → Bool) (ks : List ℕ) (place m : ℕ)
    → slice_get (filter test ks) place ≡ Some m → test m ≡ true
passes-at test [] place m e = cc
passes-at test (k ∷ ks) place m e = cases (test k) refl place (passes-at test ks) e
  where
    cases : (passes : Bool) → test k ≡ passes → (place : ℕ)
        → ((place m : ℕ) → slice_get (filter test ks) place ≡ Some m → test m ≡ true)
        → slice_get (cond passes (k ∷ filter test ks) (filter test ks)) place ≡ Some m
        → test m ≡ true
    cases true t zero later e = subst (λ j. test j ≡ true) (same_Some k m e) t
    cases true t (suc place) later e = later place m e
    cases false t place later e = later place m e

taken-at : (count : ℕ) (ks : List ℕ) (place m : ℕ) → slice_get (take count ks) place ≡ Some m
    → slice_get ks place ≡ Some m
taken-at zero ks place m e = cc
taken-at (suc count) [] place m e = e
taken-at (suc count) (k ∷ ks) zero m e = e
taken-at (suc count) (k ∷ ks) (suc place) m e = taken-at count ks place m e

mapped-at : (f : ℕ → ℕ) (o : Option ℕ) (handle : ℕ) → option_map f o ≡ Some handle
    → (m : ℕ) × (o ≡ Some m) × (f m ≡ handle)
mapped-at f None handle e = cc
mapped-at f (Some m) handle e = (m, refl, same_Some (f m) handle e)

-- each handle that is returned is that of a visible object
pub found-visible : (h : History) (session max place handle : ℕ)
    → slice_get (map (handle_of h) (take max (search_rest h session))) place ≡ Some handle
    → (m : ℕ) × (is_visible h m ≡ true) × (handle_of h m ≡ handle)
found-visible h session max place handle e =
    let found = mapped-at (handle_of h) (slice_get (take max (search_rest h session)) place) handle
    (sym (slice_get-map (handle_of h) (take max (search_rest h session)) place) ∙ e) in (
      found.0,
      passes-at (is_visible h) (remaining_objects h session) place found.0
          (taken-at max (search_rest h session) place found.0 found.1),
      found.2,
    )

-- an entry that returns what a search finds
pub found-call : (d : Option Call) → searches d ≡ true
    → (session : ℕ) × (max : ℕ) × (d ≡ Some (call.FindObjects session max))
found-call (Some (call.FindObjects session max)) t = (session, max, refl)
found-call other t = absurd (false≢true t)

-- ---- an object's handle has its number

module _ (limits : Ranges) (h : History) (good : IsSoundHistory limits h) where
  handle_of-number : (n handle : ℕ) (attributes : List Item) → object_at h n ≡ Some attributes
      → handle_of h n ≡ handle → n ≡ number_of_handle handle
  handle_of-number n handle attributes there e =
      let within = object_at-within h good.sound n attributes there in
      let below = creations-bound limits good.in_range h good.sound good.legal in
      handle-number (view_of h) attributes handle n (omega arith)
      (subst (λ o. option_map_or (λ items. handle_with (view_of h) items n) o 0 ≡ handle) there e)

  -- a private object whose handle is that of a visible one is visible, being the same
  seen-login : (n m handle : ℕ) → IsPrivate h n → handle_of h n ≡ handle
      → is_visible h m ≡ true → handle_of h m ≡ handle → login h ≡ Some user.User
  seen-login n m handle private own visible found =
      let there = some_passes (is_visible_with (view_of h)) (object_at h m) visible in
      let same : m ≡ n = handle_of-number m handle there.0 there.1 found
      ∙ sym (handle_of-number n handle private.attributes private.present own) in
      let alike = same_Some private.attributes there.0
      (sym private.present ∙ ap (object_at h) (sym same) ∙ there.1) in
      visible-login h there.0 there.2
      (subst (λ items. is_set items attribute.Private ≡ true) alike private.private)

-- ---- both

module _ (limits : Ranges) (e : Entry) (h : History) (good : IsSoundHistory limits (e ◁ h))
    (place handle n : ℕ) (private : IsPrivate (e ◁ h) n) (own : handle_of (e ◁ h) n ≡ handle) where
  created-login : creates (done e) ≡ true
      → slice_get (handle_made e.reply.body) place ≡ Some handle → login h ≡ Some user.User
  created-login t returned =
      let did = done-some (done e) creates refl t in
      let created : creates (Some did.0) ≡ true = subst (λ d. creates d ≡ true) did.1 t in
      let attributes = new-attributes e h in
      let given = creation-body e h limits good.legal t in
      let fresh = only-handle e.reply.body (new_handle h attributes) place handle given returned in
      let number = new-number e h limits good t handle fresh in
      let same : suc (creations h) ≡ n = number
      ∙ sym (handle_of-number limits (e ◁ h) good n handle private.attributes private.present
      own) in
      let alike : private.attributes ≡ attributes = same_Some private.attributes attributes
      (sym private.present ∙ ap (object_at (e ◁ h)) (sym same) ∙ object_at-created e h t) in
      is_user-some user.User (login h)
      (creation-user limits h did.0 (passed-done limits e h good.legal did.0 did.1) created
      (subst (λ items. is_set items attribute.Private ≡ true)
      (alike ∙ ap (λ d. creation_attributes d (attributes_named h)) did.1) private.private))

  found-login : searches (done e) ≡ true
      → slice_get (handles_in e.reply.body) place ≡ Some handle → login h ≡ Some user.User
  found-login t returned =
      let did = found-call (done e) t in
      let list = map (handle_of h) (take did.1 (search_rest h did.0)) in
      let listed : handles_in e.reply.body ≡ list =
      ap (λ (r : Reply). handles_in r.body)
      (allowed-done limits e h good.legal (call.FindObjects did.0 did.1) did.2) in
      let visible = found-visible h did.0 did.1 place handle
      (subst (λ handles. slice_get handles place ≡ Some handle) listed returned) in
      let objects = ap (λ d. (effects_of d).objects) did.2 in
      let sessions = ap (λ d. (effects_of d).sessions) did.2 in
      let before = object_at-left e h objects n in
      let was_private : IsPrivate h n = record {
        attributes = private.attributes;
        present = sym before ∙ private.present;
        private = private.private;
      } in
      let was_own : handle_of h n ≡ handle =
      ap (λ (v : View). option_map_or (λ items. handle_with v items n) (object_at h n) 0)
      (sym (view_of-left e h sessions))
      ∙ ap (λ o. option_map_or (λ items. handle_with (view_of (e ◁ h)) items n) o 0) (sym before)
      ∙ own in
      seen-login limits h (just_before limits e h good) n visible.0 handle was_private was_own
      visible.1 visible.2

pub private-returned : PrivateHandlesAreReturnedToTheUser
private-returned limits e h good place handle n returned private own =
    cases (creates (done e)) (searches (done e)) refl refl returned
  where
    cases : (created found : Bool) → creates (done e) ≡ created → searches (done e) ≡ found
        → slice_get (cond created (handle_made e.reply.body)
        (cond found (handles_in e.reply.body) [])) place ≡ Some handle
        → login h ≡ Some user.User
    cases true found c f returned =
        created-login limits e h good place handle n private own c returned
    cases false true c f returned =
        found-login limits e h good place handle n private own f returned
    cases false false c f returned = cc
