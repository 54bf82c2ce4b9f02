-- What calls do to objects
use Rattle.std.proofs.Common.{◌≡◌, ◌⊎◌, inl, inr, ℕ, suc, Bool, true, false, cond, not, ◌&&◌}
use Rattle.std.proofs.Common.{List, Option, Some, None, refl, sym, ap, ◌∙◌, subst, arith}
use Rattle.std.specs.Prelude.{◌==◌, option_and_then}
use Rattle.std.proofs.lemmas.Bool.{and_parts, eqb-true, false≢true, ne_eqb, not-false}
use Rattle.std.proofs.lemmas.Option.{same_Some}
use Rattle.ck_objects.specs.KeyStates.{state_of_number}
use Rattle.ck_objects.specs.Records.{is_set, placement_of, with_given}
use Rattle.ck_types.specs.TokenLimits.{Ranges}
use Rattle.ck_objects.specs.declared.attributes.Attribute.TheVariants as attribute
use Rattle.ck_types.specs.declared.errors.RvError.{RvError}
use Rattle.ck_types.specs.declared.errors.RvError.TheVariants as rv_error
use Rattle.ck_objects.specs.declared.items.Item.{Item}
use Rattle.ck_types.proofs.CheckLemmas.{error_if-none, or_else-none}
use Rattle.ck_journal.specs.declared.calls.Call.{Call}
use Rattle.ck_journal.specs.declared.calls.Call.TheVariants as call
use Rattle.ck_journal.specs.declared.views.View.{View}
use Rattle.ck_journal.specs.Answers.{call_error, session_error, object_error, key_error}
use Rattle.ck_journal.specs.Answers.{change_error, destruction_error, state_change_error}
use Rattle.ck_journal.specs.Answers.{prohibited_error, placement_error, read_only_session_error}
use Rattle.ck_journal.specs.Histories.{History, done}
use Rattle.ck_journal.specs.Laws.{changed_handle, writes}
use Rattle.ck_journal.specs.Laws.{OnlyNamedObjectsChange, UndestroyableObjectsAreNotDestroyed}
use Rattle.ck_journal.specs.Laws.{TokenObjectsEndByName}
use Rattle.ck_journal.specs.Laws.{TokenObjectsAreWrittenInReadWriteSessions}
use Rattle.ck_journal.specs.Laws.{TokenObjectsAreCreatedInReadWriteSessions}
use Rattle.ck_journal.specs.Objects.{creates, creations, creation_attributes, creation_session}
use Rattle.ck_journal.specs.Objects.{object_at, object_after, attributes_named}
use Rattle.ck_journal.specs.Objects.{in_state, is_session_object, names_with, session_of, view_of}
use Rattle.ck_journal.specs.Pins.{initializes}
use Rattle.ck_journal.specs.Sessions.{is_read_write}
use Rattle.ck_journal.proofs.KeyUseLemmas.{key-named}
use Rattle.ck_journal.proofs.LegalLemmas.{by-done, passed-done, object-found, later-passes}
use Rattle.ck_journal.proofs.LegalLemmas.{last-passes, not-created}
use Rattle.ck_journal.proofs.NameLemmas.{found-number}
use Rattle.ck_journal.proofs.ObjectMoves.{object_at-within, object_at-created}
use Rattle.ck_journal.proofs.ReturnedHandleLemmas.{creation-placed}

-- ---- changes

unended : (ends : Bool) (a b : List Item) → cond ends None (Some a) ≡ Some b → b ≡ a
unended true a b e = cc
unended false a b e = sym (same_Some a b e)

unchanged : (named : Bool) (changed a b : List Item) → Some (cond named changed a) ≡ Some b
    → (b ≡ a) ⊎ (named ≡ true)
unchanged true changed a b e = inr refl
unchanged false changed a b e = inl (sym (same_Some a b e))

-- the call changes the object that its handle names by these attributes and number
abbrev ChangesNamed : Option Call → View → ℕ → List Item → Type 0
ChangesNamed d view n a =
    (handle : ℕ) × (changed_handle d ≡ Some handle) × (names_with view a handle n ≡ true)

kept-or-changed : (d : Option Call) (view : View) (n creator : ℕ) (a b : List Item)
    → object_after d view n creator a ≡ Some b → (b ≡ a) ⊎ ChangesNamed d view n a
kept-or-changed (Some (call.SetAttributeValue session object template)) view n creator a b e =
    elim (unchanged (names_with view a object n) (with_given template.items a) a b e) [
      | inl same ↦ inl same
      | inr named ↦ inr (object, refl, named)
    ]
kept-or-changed (Some (call.SetKeyState session key number)) view n creator a b e =
    elim (unchanged (names_with view a key n) (in_state (state_of_number number) a) a b e) [
      | inl same ↦ inl same
      | inr named ↦ inr (key, refl, named)
    ]
kept-or-changed (Some (call.DestroyObject session object)) view n creator a b e =
    inl (unended _ a b e)
kept-or-changed (Some (call.InitToken pin)) view n creator a b e = cc
kept-or-changed (Some (call.CloseSession session)) view n creator a b e = inl (unended _ a b e)
kept-or-changed (Some call.CloseAllSessions) view n creator a b e = inl (unended _ a b e)
kept-or-changed (Some (call.Logout session)) view n creator a b e = inl (unended _ a b e)
kept-or-changed other view n creator a b e = inl (sym (same_Some a b e))

pub only-named : OnlyNamedObjectsChange
only-named limits e h good n before now was is =
    let within = object_at-within h good.sound n before was in
    let older = ne_eqb n (suc (creations h)) (λ same. omega (arith, within.1, same)) in
    let left = not-created (creates (done e)) (n == suc (creations h)) _ _ now older is in
    let after = object_after (done e) (view_of h) n (session_of h n) in
    elim (kept-or-changed (done e) (view_of h) n (session_of h n) before now
    (subst (λ o. option_and_then after o ≡ Some now) was left)) [
      | inl same ↦ inl same
      | inr changed ↦ inr (record {
        handle = changed.0;
        changes = changed.1;
        named = found-number limits good.in_range h good.sound good.legal.1 changed.0 n before
            was changed.2;
      })
    ]

-- ---- ends

pub undestroyable-not_destroyed : UndestroyableObjectsAreNotDestroyed
undestroyable-not_destroyed limits e h good n attributes made there =
    let p = passed-done limits e h good.legal (call.DestroyObject made.session made.handle)
    made.destroys in
    let found = object-found (attributes_named h made.handle) (destruction_error h made.session)
    rv_error.ObjectHandleInvalid
    (last-passes (object_error h made.handle (destruction_error h made.session))
    (later-passes (session_error h made.session) _ p)) in
    let named : attributes_named h made.handle ≡ Some attributes =
    ap (option_and_then (object_at h)) made.named ∙ there in
    let same : found.0 ≡ attributes = same_Some found.0 attributes (sym found.1 ∙ named) in
    let checks = subst (λ items. destruction_error h made.session items ≡ None) same found.2 in
    not-false (is_set attributes attribute.Destroyable)
    (error_if-none (not (is_set attributes attribute.Destroyable)) rv_error.ActionProhibited
    (last-passes (prohibited_error attribute.Destroyable attributes)
    (later-passes (read_only_session_error h made.session (placement_of attributes)) _ checks)))

ended : (ends : Bool) (a : List Item) → cond ends None (Some a) ≡ None → ends ≡ true
ended true a e = refl
ended false a e = cc

-- what ends session objects ends no token object
not-ended : (ends : Bool) (a : List Item) → ends ≡ false → cond ends None (Some a) ≡ None → ⊥
not-ended true a f e = cc
not-ended false a f e = cc

-- the call destroys the object that its handle names by these attributes and number
abbrev DestroysNamed : Option Call → View → ℕ → List Item → Type 0
DestroysNamed d view n a =
    (session : ℕ) × (handle : ℕ) × (d ≡ Some (call.DestroyObject session handle))
    × (names_with view a handle n ≡ true)

token-ended : (d : Option Call) (view : View) (n creator : ℕ) (a : List Item)
    → is_set a attribute.Token ≡ true → object_after d view n creator a ≡ None
    → (initializes d ≡ true) ⊎ DestroysNamed d view n a
token-ended (Some (call.InitToken pin)) view n creator a token e = inl refl
token-ended (Some (call.DestroyObject session object)) view n creator a token e =
    inr (session, object, refl, ended (names_with view a object n) a e)
token-ended (Some (call.CloseSession session)) view n creator a token e =
    absurd (not-ended (is_session_object a && session == creator) a
    (ap (λ t. not t && session == creator) token) e)
token-ended (Some call.CloseAllSessions) view n creator a token e =
    absurd (not-ended (is_session_object a) a (ap not token) e)
token-ended (Some (call.Logout session)) view n creator a token e =
    absurd (not-ended (is_session_object a && is_set a attribute.Private) a
    (ap (λ t. not t && is_set a attribute.Private) token) e)
token-ended (Some (call.SetAttributeValue session object template)) view n creator a token e = cc
token-ended (Some (call.SetKeyState session key number)) view n creator a token e = cc
token-ended other view n creator a token e = cc

none-created : (created : Bool) (fresh : List Item) (later : Option (List Item))
    → cond created (Some fresh) later ≡ None → later ≡ None
none-created true fresh later e = cc
none-created false fresh later e = e

pub token_objects-end : TokenObjectsEndByName
token_objects-end limits e h good n attributes there token gone =
    let left = none-created (creates (done e) && n == suc (creations h)) _ _ gone in
    let after = object_after (done e) (view_of h) n (session_of h n) in
    elim (token-ended (done e) (view_of h) n (session_of h n) attributes token
    (subst (λ o. option_and_then after o ≡ None) there left)) [
      | inl new ↦ inl new
      | inr named ↦ inr (record {
        session = named.0;
        handle = named.1;
        destroys = named.2;
        named = found-number limits good.in_range h good.sound good.legal.1 named.1 n
            attributes there named.3;
      })
    ]

-- ---- token objects and read-only sessions

read_write-by : (token read_write : Bool) → (token && not read_write) ≡ false → token ≡ true
    → read_write ≡ true
read_write-by true true e t = refl
read_write-by true false e t = cc
read_write-by false read_write e t = cc

-- a token object passes the check only in a read/write session
passes-read_write : (h : History) (session : ℕ) (attributes : List Item)
    → read_only_session_error h session (placement_of attributes) ≡ None
    → is_set attributes attribute.Token ≡ true → is_read_write h session ≡ true
passes-read_write h session attributes p =
    read_write-by (is_set attributes attribute.Token) (is_read_write h session)
    (error_if-none _ rv_error.SessionReadOnly p)

-- what a call writes by a handle passes that check
module _ (limits : Ranges) (h : History) (s handle : ℕ) (a : List Item)
    (named : attributes_named h handle ≡ Some a) where
  abbrev PassesReadOnly : Type 0
  PassesReadOnly = read_only_session_error h s (placement_of a) ≡ None

  object-passes : (session object : ℕ) (checks : ℕ → List Item → Option RvError)
      → ((items : List Item) → checks s items ≡ None
      → read_only_session_error h s (placement_of items) ≡ None)
      → (session == s && object == handle) ≡ true
      → object_error h object (checks session) ≡ None → PassesReadOnly
  object-passes session object checks first t p =
      let same = and_parts (session == s) (object == handle) t in
      let found = object-found (attributes_named h object) (checks session)
      rv_error.ObjectHandleInvalid p in
      let here : found.0 ≡ a = same_Some found.0 a
      (sym found.1 ∙ ap (attributes_named h) (eqb-true object handle same.1) ∙ named) in
      first a (subst (λ items. checks s items ≡ None) here
      (subst (λ k. checks k found.0 ≡ None) (eqb-true session s same.0) found.2))

  key-passes : (session key number : ℕ) → (session == s && key == handle) ≡ true
      → key_error h key (state_change_error h session number) ≡ None → PassesReadOnly
  key-passes session key number t p =
      let same = and_parts (session == s) (key == handle) t in
      let found = key-named (attributes_named h key) (state_change_error h session number) p in
      let here : found.0 ≡ a = same_Some found.0 a
      (sym found.1 ∙ ap (attributes_named h) (eqb-true key handle same.1) ∙ named) in
      let checks = subst (λ items. state_change_error h s number items ≡ None) here
      (subst (λ k. state_change_error h k number found.0 ≡ None) (eqb-true session s same.0)
      found.3) in
      (or_else-none (read_only_session_error h s (placement_of a)) _ checks).0

  write-passes : (c : Call) → call_error limits h c ≡ None → writes (Some c) s handle ≡ true
      → PassesReadOnly
  write-passes (call.SetAttributeValue session object template) p t =
      object-passes session object (λ k. change_error h k template.items)
      (λ items checks. (or_else-none (read_only_session_error h s (placement_of items)) _
      checks).0) t
      (last-passes (object_error h object (change_error h session template.items))
      (later-passes (session_error h session) _ p))
  write-passes (call.DestroyObject session object) p t =
      object-passes session object (λ k. destruction_error h k)
      (λ items checks. (or_else-none (read_only_session_error h s (placement_of items)) _
      checks).0) t
      (last-passes (object_error h object (destruction_error h session))
      (later-passes (session_error h session) _ p))
  write-passes (call.SetKeyState session key number) p t =
      key-passes session key number t
      (last-passes (key_error h key (state_change_error h session number))
      (later-passes (session_error h session) _ p))
  write-passes other p t = absurd (false≢true t)

pub token_objects-written : TokenObjectsAreWrittenInReadWriteSessions
token_objects-written limits e h good session handle attributes t named =
    passes-read_write h session attributes
    (by-done limits e h good.legal
    (λ d. writes d session handle ≡ true
    → read_only_session_error h session (placement_of attributes) ≡ None) (λ t. cc)
    (write-passes limits h session handle attributes named) t)

pub token_objects-created : TokenObjectsAreCreatedInReadWriteSessions
token_objects-created limits e h good attributes t there token =
    let session = creation_session (done e) in
    let fresh = creation_attributes (done e) (attributes_named h) in
    let same : fresh ≡ attributes = same_Some fresh attributes
    (sym (object_at-created e h t) ∙ there) in
    let placed = by-done limits e h good.legal
    (λ d. creates d ≡ true → placement_error h (creation_session d)
    (placement_of (creation_attributes d (attributes_named h))) ≡ None) (λ t. cc)
    (creation-placed limits h) t in
    passes-read_write h session attributes
    (subst (λ items. read_only_session_error h session (placement_of items) ≡ None) same
    (or_else-none (read_only_session_error h session (placement_of fresh)) _ placed).0) token
