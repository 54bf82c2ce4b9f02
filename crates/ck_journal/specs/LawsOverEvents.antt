-- What is so between a front and every later one, whatever calls are answered in between, and
-- however often the journal is cut: laws of handles, of objects that have ended, of what protects
-- keys, of their states, of attributes that stay, of private objects and keys and of locks
use Rattle.std.specs.Prelude.{◌≡◌, ℕ, suc, ◌≤◌, Bool, true, false, List, [], ◌∷◌, Some, None}
use Rattle.std.specs.Prelude.{◌==◌, ◌&&◌}
use Rattle.ck_objects.specs.Attributes.{type_of}
use Rattle.ck_objects.specs.KeyStates.{state_number}
use Rattle.ck_objects.specs.Records.{is_set, is_key_class, is_revealable, state_in}
use Rattle.ck_objects.specs.Templates.{class_of, value_at}
use Rattle.ck_types.specs.TokenLimits.{Ranges}
use Rattle.ck_objects.specs.declared.attributes.Attribute.{Attribute}
use Rattle.ck_objects.specs.declared.attributes.Attribute.TheVariants as attribute
use Rattle.ck_objects.specs.declared.attributes.Class.{Class}
use Rattle.ck_objects.specs.declared.items.Item.{Item}
use Rattle.ck_objects.specs.declared.key_states.KeyState.{KeyState}
use Rattle.ck_objects.specs.declared.key_states.KeyState.TheVariants as state
use Rattle.ck_types.specs.declared.users.UserType.TheVariants as user
use Rattle.ck_journal.specs.declared.calls.Call.TheVariants as call
use Rattle.ck_journal.specs.declared.calls.Entry.{Entry}
use Rattle.ck_journal.specs.declared.operations.OperationKind.{OperationKind}
use Rattle.ck_journal.specs.declared.replies.Body.TheVariants as body
use Rattle.ck_journal.specs.Events.{Event, answered, cut, after_events, AreSoundEvents}
use Rattle.ck_journal.specs.Histories.{History, ◌◁◌, done}
use Rattle.ck_journal.specs.KeyLaws.{is_sensitive_key, is_extractable}
use Rattle.ck_journal.specs.Laws.{IsPrivate, IsSoundHistory}
use Rattle.ck_journal.specs.Objects.{creates, creations, object_at, object_named, names_with}
use Rattle.ck_journal.specs.Objects.{view_of}
use Rattle.ck_journal.specs.Operations.{is_active, key_in}
use Rattle.ck_journal.specs.Pins.{is_initialized, is_locked}
use Rattle.ck_journal.specs.Sessions.{opens, login}

-- ---- handles of objects

-- the handle names the object of this number: that is there and visible, and has the handle
pub record Names (h : History) (handle n : ℕ) : Type 0 where
  pub attributes : List Item
  pub present : object_at h n ≡ Some attributes
  pub named : names_with (view_of h) attributes handle n ≡ true

-- the entry creates the object of this number
abbrev pub creates_number : Entry → History → ℕ → Bool
creates_number e h n = creates (done e) && n == suc (creations h)

-- none of the events creates an object of this number
abbrev pub IsNotCreated : History → List Event → ℕ → Type 0
IsNotCreated h [] n = Unit {0}
IsNotCreated h (answered e ∷ later) n =
    (creates_number e (after_events h later) n ≡ false) × IsNotCreated h later n
IsNotCreated h (cut ∷ later) n = IsNotCreated h later n

-- a handle names at most one object, at one front and over all: those that it names at a front and
-- at a later one have one number, and no object of this number is created in between
abbrev pub HandlesNameOneObject : Type 0
HandlesNameOneObject =
    (limits : Ranges) (h : History) (later : List Event) → AreSoundEvents limits h later
    → (handle n m : ℕ) → Names h handle n → Names (after_events h later) handle m
    → (n ≡ m) × IsNotCreated h later n

-- the entry creates an object and returns this handle
pub record GivesObject (e : Entry) (handle : ℕ) : Type 0 where
  pub creates : creates (done e) ≡ true
  pub returns : e.reply.body ≡ body.Handle handle

-- a creation returns no handle that has named an object before
abbrev pub NewObjectsHaveNewHandles : Type 0
NewObjectsHaveNewHandles =
    (limits : Ranges) (h : History) (later : List Event) (e : Entry)
    → AreSoundEvents limits h (answered e ∷ later) → (handle n : ℕ)
    → Names h handle n → GivesObject e handle → ⊥

-- no two entries give one handle
abbrev pub AreGivenOnce : (Entry → ℕ → Type 0) → Type 0
AreGivenOnce Gives =
    (limits : Ranges) (h : History) (first : Entry) (later : List Event) (second : Entry)
    → AreSoundEvents limits (first ◁ h) (answered second ∷ later) → (handle : ℕ)
    → Gives first handle → Gives second handle → ⊥

-- no two creations return one handle
abbrev pub ObjectHandlesAreGivenOnce : Type 0
ObjectHandlesAreGivenOnce = AreGivenOnce GivesObject

-- ---- objects that have ended

-- what was created and isn't there at a front isn't there at any later one
abbrev pub EndedObjectsStayEnded : Type 0
EndedObjectsStayEnded =
    (limits : Ranges) (h : History) (later : List Event) → AreSoundEvents limits h later
    → (n : ℕ) → n ≤ creations h → object_at h n ≡ None → object_at (after_events h later) n ≡ None

-- the handle of a C_DestroyObject that was answered OK never names an object again
abbrev pub DestroyedHandlesNameNothing : Type 0
DestroyedHandlesNameNothing =
    (limits : Ranges) (h : History) (e : Entry) (later : List Event)
    → AreSoundEvents limits (e ◁ h) later → (session handle : ℕ)
    → done e ≡ Some (call.DestroyObject session handle)
    → object_named (after_events (e ◁ h) later) handle ≡ None

-- ---- handles of sessions

-- the entry opens a session and returns this handle
pub record GivesSession (e : Entry) (handle : ℕ) : Type 0 where
  pub opens : opens (done e) ≡ true
  pub returns : e.reply.body ≡ body.Handle handle

-- no two sessions are given one handle
abbrev pub SessionHandlesAreGivenOnce : Type 0
SessionHandlesAreGivenOnce = AreGivenOnce GivesSession

-- no object and no session is given handle 0, which is no handle (CK_INVALID_HANDLE)
abbrev pub HandlesAreNotZero : Type 0
HandlesAreNotZero =
    (limits : Ranges) (e : Entry) (h : History) → IsSoundHistory limits (e ◁ h)
    → (GivesObject e 0 → ⊥) × (GivesSession e 0 → ⊥)

-- ---- what protects keys

-- holds of an object's attributes at a front and of its attributes at every later front where it is
-- there
abbrev pub BetweenFronts : (List Item → List Item → Type 0) → Type 0
BetweenFronts Holds =
    (limits : Ranges) (h : History) (later : List Event) → AreSoundEvents limits h later
    → (n : ℕ) (before now : List Item)
    → object_at h n ≡ Some before → object_at (after_events h later) n ≡ Some now
    → Holds before now

-- a key that is sensitive at a front is sensitive at every later one where it is there
abbrev pub SensitiveStays : Type 0
SensitiveStays =
    BetweenFronts (λ before now. is_sensitive_key before ≡ true → is_sensitive_key now ≡ true)

-- one that isn't extractable stays so
abbrev pub UnextractableStays : Type 0
UnextractableStays =
    BetweenFronts (λ before now. is_extractable before ≡ false → is_extractable now ≡ false)

-- a key of which CKA_ALWAYS_SENSITIVE is true at a front was sensitive at every earlier one where
-- it was there, and is at this one
abbrev pub AlwaysSensitiveIsTrue : Type 0
AlwaysSensitiveIsTrue =
    BetweenFronts (λ before now.
    is_set now attribute.AlwaysSensitive ≡ true → is_sensitive_key before ≡ true)

-- a key of which CKA_NEVER_EXTRACTABLE is true at a front was extractable at no earlier one, and
-- isn't at this one
abbrev pub NeverExtractableIsTrue : Type 0
NeverExtractableIsTrue =
    BetweenFronts (λ before now.
    is_set now attribute.NeverExtractable ≡ true → is_extractable before ≡ false)

-- what may not be revealed at a front may not be revealed at any later one
abbrev pub HiddenStays : Type 0
HiddenStays =
    BetweenFronts (λ before now. is_revealable before ≡ false → is_revealable now ≡ false)

-- ---- states of keys

-- how far a key has come: its state's number, except that active and suspended are one phase, since
-- a key may go to and fro
abbrev pub phase : KeyState → ℕ
phase state.Suspended = state_number state.Active
phase s = state_number s

-- a key never goes back to an earlier phase: what is deactivated, compromised or destroyed isn't
-- active again, and what is destroyed stays so
abbrev pub KeyStatesNeverGoBack : Type 0
KeyStatesNeverGoBack =
    BetweenFronts (λ before now. (s t : KeyState)
    → state_in before ≡ Some s → state_in now ≡ Some t → phase s ≤ phase t)

-- ---- attributes that stay

-- no call changes this attribute of objects of the class: for all objects the class, where they
-- are kept, and what may be done with them; for keys also the type, the value, and how they came to
-- be
abbrev pub is_read_only : Class → Attribute → Bool
is_read_only c attribute.Class = true
is_read_only c attribute.Token = true
is_read_only c attribute.Private = true
is_read_only c attribute.Modifiable = true
is_read_only c attribute.Copyable = true
is_read_only c attribute.Destroyable = true
is_read_only c attribute.KeyType = is_key_class c
is_read_only c attribute.Value = is_key_class c
is_read_only c attribute.ValueLen = is_key_class c
is_read_only c attribute.Local = is_key_class c
is_read_only c attribute.KeyGenMechanism = is_key_class c
is_read_only c attribute.AlwaysSensitive = is_key_class c
is_read_only c attribute.NeverExtractable = is_key_class c
is_read_only c other = false

-- these attributes are at a front what they were at every earlier one
abbrev pub ReadOnlyAttributesStay : Type 0
ReadOnlyAttributesStay =
    BetweenFronts (λ before now. (a : Attribute) → is_read_only (class_of before) a ≡ true
    → value_at now (type_of a) ≡ value_at before (type_of a))

-- where CKA_MODIFIABLE is false, no attribute changes, except the state of a key
abbrev pub UnmodifiableObjectsStay : Type 0
UnmodifiableObjectsStay =
    BetweenFronts (λ before now. is_set before attribute.Modifiable ≡ false → (kind : ℕ)
    → (kind ≡ type_of attribute.KeyState → ⊥) → value_at now kind ≡ value_at before kind)

-- ---- private objects and keys

-- CKA_PRIVATE of an object is at a front what it was at every earlier one
abbrev pub PrivateStays : Type 0
PrivateStays =
    BetweenFronts (λ before now. is_set now attribute.Private ≡ is_set before attribute.Private)

-- an operation whose key was private at this front or an earlier one is active only while the
-- normal user is logged in, also where the key has ended
abbrev pub PrivateKeysServeTheUser : Type 0
PrivateKeysServeTheUser =
    (limits : Ranges) (h : History) (later : List Event) → AreSoundEvents limits h later
    → (k : OperationKind) (session n : ℕ)
    → IsPrivate h n → is_active k (after_events h later) session ≡ true
    → key_in k (after_events h later) session ≡ Some n
    → login (after_events h later) ≡ Some user.User

-- ---- locks

-- a locked security officer stays locked. A sound base that isn't initialized may have three wrong
-- tries, which the first initialization sets back to 0: hence the premise.
abbrev pub LockedOfficersStayLocked : Type 0
LockedOfficersStayLocked =
    (limits : Ranges) (h : History) (later : List Event) → AreSoundEvents limits h later
    → is_initialized h ≡ true → is_locked user.So h ≡ true
    → is_locked user.So (after_events h later) ≡ true
