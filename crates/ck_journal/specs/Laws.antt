-- What is so in every history that is legal from a sound base: laws of PINs and wrong tries, of
-- session objects, of what calls do to objects, and of who sees private ones
use Rattle.std.specs.Prelude.{◌≡◌, ◌⊎◌, ℕ, suc, ◌<◌, ◌≤◌, Bool, true, false, List, [], ◌∷◌, Option}
use Rattle.std.specs.Prelude.{Some, None, ◌==◌, ◌&&◌, not, length, Contains, if◌then◌else◌}
use Rattle.std.specs.List.{slice_get, All, AllPairs, AllZip}
use Rattle.ck_objects.specs.Records.{is_set}
use Rattle.ck_types.specs.TokenLimits.{Ranges, AreInRange}
use Rattle.ck_types.specs.Users.{user_of, same_user}
use Rattle.ck_objects.specs.declared.attributes.Attribute.TheVariants as attribute
use Rattle.ck_objects.specs.declared.items.Item.{Item}
use Rattle.ck_types.specs.declared.pins.Pin.{Pin}
use Rattle.ck_types.specs.declared.users.UserType.{UserType}
use Rattle.ck_types.specs.declared.users.UserType.TheVariants as user
use Rattle.ck_journal.specs.declared.calls.AttributeQuery.{AttributeQuery}
use Rattle.ck_journal.specs.declared.calls.Call.{Call}
use Rattle.ck_journal.specs.declared.calls.Call.TheVariants as call
use Rattle.ck_journal.specs.declared.calls.Entry.{Entry}
use Rattle.ck_journal.specs.declared.replies.Answer.{Answer}
use Rattle.ck_journal.specs.declared.replies.Body.{Body}
use Rattle.ck_journal.specs.declared.replies.Body.TheVariants as body
use Rattle.ck_journal.specs.Answers.{IsLegal}
use Rattle.ck_journal.specs.Bases.{IsSound}
use Rattle.ck_journal.specs.Histories.{History, ◌◁◌, start_of, done}
use Rattle.ck_journal.specs.Objects.{object_at, object_named, session_of, is_session_object}
use Rattle.ck_journal.specs.Objects.{is_visible, creates, handle_of, creations, creation_session}
use Rattle.ck_journal.specs.Objects.{attributes_named}
use Rattle.ck_journal.specs.Pins.{initializes, is_initialized, is_locked, is_pin, pin_owner}
use Rattle.ck_journal.specs.Pins.{present_pin, so_pin, tries}
use Rattle.ck_journal.specs.Searches.{handles_in, found_objects, last_number}
use Rattle.ck_journal.specs.Sessions.{is_open, is_read_write, login, state_of}

-- the limits are in range, the base is sound and every reply is the answer at its front
pub record IsSoundHistory (limits : Ranges) (h : History) : Type 0 where
  pub in_range : AreInRange limits.sessions limits.openings limits.creations limits.logins
  pub sound : IsSound (start_of h)
  pub legal : IsLegal limits h

-- ---- PINs and wrong tries

-- a login is answered OK only with the user's PIN, and only where the user isn't locked
abbrev pub LoginsNeedThePin : Type 0
LoginsNeedThePin =
    (limits : Ranges) (e : Entry) (h : History) → IsSoundHistory limits (e ◁ h)
    → (session number : ℕ) (given : Pin) (u : UserType)
    → done e ≡ Some (call.Login session number given) → user_of number ≡ Some u
    → (is_pin (present_pin u h) given ≡ true) × (is_locked u h ≡ false)

-- so is an initialization of a token that is initialized, with the security officer's
abbrev pub InitializationsNeedThePin : Type 0
InitializationsNeedThePin =
    (limits : Ranges) (e : Entry) (h : History) → IsSoundHistory limits (e ◁ h) → (given : Pin)
    → done e ≡ Some (call.InitToken given) → is_initialized h ≡ true
    → (is_pin (so_pin h) given ≡ true) × (is_locked user.So h ≡ false)

-- and a C_SetPIN, with the old PIN of the user whose PIN it sets
abbrev pub ChangesOfPinsNeedThePin : Type 0
ChangesOfPinsNeedThePin =
    (limits : Ranges) (e : Entry) (h : History) → IsSoundHistory limits (e ◁ h)
    → (session : ℕ) (old new : Pin) (u : UserType)
    → done e ≡ Some (call.SetPin session old new) → pin_owner (state_of h session) ≡ u
    → (is_pin (present_pin u h) old ≡ true) × (is_locked u h ≡ false)

-- a C_InitPIN is answered OK only where the security officer is logged in
abbrev pub UserPinsAreSetByTheOfficer : Type 0
UserPinsAreSetByTheOfficer =
    (limits : Ranges) (e : Entry) (h : History) → IsSoundHistory limits (e ◁ h)
    → (session : ℕ) (pin : Pin) → done e ≡ Some (call.InitPin session pin)
    → login h ≡ Some user.So

-- the call sets this user's PIN or takes it away, by the history just before it: the security
-- officer's at the first initialization, the normal user's at every one and by C_InitPIN, and that
-- of the session's user by C_SetPIN
abbrev pub changes_pin : Option Call → UserType → History → Bool
changes_pin (Some (call.InitToken pin)) user.So h = not (is_initialized h)
changes_pin (Some (call.InitToken pin)) user.User h = true
changes_pin (Some (call.InitPin session pin)) user.So h = false
changes_pin (Some (call.InitPin session pin)) user.User h = true
changes_pin (Some (call.SetPin session old new)) u h = same_user u (pin_owner (state_of h session))
changes_pin other u h = false

-- no other call changes a user's PIN
abbrev pub PinsStay : Type 0
PinsStay =
    (limits : Ranges) (e : Entry) (h : History) → IsSoundHistory limits (e ◁ h) → (u : UserType)
    → changes_pin (done e) u h ≡ false → present_pin u (e ◁ h) ≡ present_pin u h

-- no user has more than three wrong tries
abbrev pub TriesAreAtMostThree : Type 0
TriesAreAtMostThree =
    (limits : Ranges) (h : History) → IsSoundHistory limits h → (u : UserType) → tries u h ≤ 3

-- ---- session objects

-- the session of a session object that hasn't ended is open
abbrev pub SessionObjectsHaveOpenSessions : Type 0
SessionObjectsHaveOpenSessions =
    (limits : Ranges) (h : History) → IsSoundHistory limits h → (n : ℕ) (attributes : List Item)
    → object_at h n ≡ Some attributes → is_session_object attributes ≡ true
    → is_open h (session_of h n) ≡ true

-- ---- what calls do to objects

-- the handle of the object whose attributes a call changes
abbrev pub changed_handle : Option Call → Option ℕ
changed_handle (Some (call.SetAttributeValue session object template)) = Some object
changed_handle (Some (call.SetKeyState session key state)) = Some key
changed_handle other = None

-- the entry changes the attributes of the object of this number, which its call's handle names
pub record Changes (e : Entry) (h : History) (n : ℕ) : Type 0 where
  pub handle : ℕ
  pub changes : changed_handle (done e) ≡ Some handle
  pub named : object_named h handle ≡ Some n

-- attributes change only of the object that a C_SetAttributeValue or a SetKeyState names
abbrev pub OnlyNamedObjectsChange : Type 0
OnlyNamedObjectsChange =
    (limits : Ranges) (e : Entry) (h : History) → IsSoundHistory limits (e ◁ h)
    → (n : ℕ) (before now : List Item)
    → object_at h n ≡ Some before → object_at (e ◁ h) n ≡ Some now
    → (now ≡ before) ⊎ Changes e h n

-- the entry destroys the object of this number, which its call's handle names
pub record Destroys (e : Entry) (h : History) (n : ℕ) : Type 0 where
  pub session : ℕ
  pub handle : ℕ
  pub destroys : done e ≡ Some (call.DestroyObject session handle)
  pub named : object_named h handle ≡ Some n

-- an object is destroyed only where its CKA_DESTROYABLE is true
abbrev pub UndestroyableObjectsAreNotDestroyed : Type 0
UndestroyableObjectsAreNotDestroyed =
    (limits : Ranges) (e : Entry) (h : History) → IsSoundHistory limits (e ◁ h)
    → (n : ℕ) (attributes : List Item) → Destroys e h n → object_at h n ≡ Some attributes
    → is_set attributes attribute.Destroyable ≡ true

-- a token object ends only at an initialization of the token, or where it is destroyed
abbrev pub TokenObjectsEndByName : Type 0
TokenObjectsEndByName =
    (limits : Ranges) (e : Entry) (h : History) → IsSoundHistory limits (e ◁ h)
    → (n : ℕ) (attributes : List Item) → object_at h n ≡ Some attributes
    → is_set attributes attribute.Token ≡ true → object_at (e ◁ h) n ≡ None
    → (initializes (done e) ≡ true) ⊎ Destroys e h n

-- the call changes or destroys, in this session, the object of this handle
abbrev pub writes : Option Call → ℕ → ℕ → Bool
writes (Some (call.SetAttributeValue session object template)) s handle =
    session == s && object == handle
writes (Some (call.SetKeyState session key state)) s handle = session == s && key == handle
writes (Some (call.DestroyObject session object)) s handle = session == s && object == handle
writes other s handle = false

-- a token object is changed and destroyed only in read/write sessions
abbrev pub TokenObjectsAreWrittenInReadWriteSessions : Type 0
TokenObjectsAreWrittenInReadWriteSessions =
    (limits : Ranges) (e : Entry) (h : History) → IsSoundHistory limits (e ◁ h)
    → (session handle : ℕ) (attributes : List Item) → writes (done e) session handle ≡ true
    → attributes_named h handle ≡ Some attributes → is_set attributes attribute.Token ≡ true
    → is_read_write h session ≡ true

-- and created only in them
abbrev pub TokenObjectsAreCreatedInReadWriteSessions : Type 0
TokenObjectsAreCreatedInReadWriteSessions =
    (limits : Ranges) (e : Entry) (h : History) → IsSoundHistory limits (e ◁ h)
    → (attributes : List Item) → creates (done e) ≡ true
    → object_at (e ◁ h) (suc (creations h)) ≡ Some attributes
    → is_set attributes attribute.Token ≡ true
    → is_read_write h (creation_session (done e)) ≡ true

-- ---- private objects

-- there is an object of this number, and it is private
pub record IsPrivate (h : History) (n : ℕ) : Type 0 where
  pub attributes : List Item
  pub present : object_at h n ≡ Some attributes
  pub private : is_set attributes attribute.Private ≡ true

-- a private object is visible only while the normal user is logged in
abbrev pub PrivateObjectsAreVisibleToTheUser : Type 0
PrivateObjectsAreVisibleToTheUser =
    (limits : Ranges) (h : History) → IsSoundHistory limits h → (n : ℕ)
    → IsPrivate h n → is_visible h n ≡ true → login h ≡ Some user.User

-- the handle of the object or key that a call takes
abbrev pub named_handle : Option Call → Option ℕ
named_handle (Some (call.CopyObject session object template)) = Some object
named_handle (Some (call.GetAttributeValue session object queries)) = Some object
named_handle (Some (call.SetAttributeValue session object template)) = Some object
named_handle (Some (call.SetKeyState session key state)) = Some key
named_handle (Some (call.DestroyObject session object)) = Some object
named_handle (Some (call.SignInit session mechanism key)) = Some key
named_handle (Some (call.VerifyInit session mechanism key)) = Some key
named_handle None = None
named_handle (Some (call.InitToken pin)) = None
named_handle (Some (call.InitPin session pin)) = None
named_handle (Some (call.SetPin session old new)) = None
named_handle (Some (call.OpenSession flags)) = None
named_handle (Some (call.CloseSession session)) = None
named_handle (Some call.CloseAllSessions) = None
named_handle (Some (call.Login session user pin)) = None
named_handle (Some (call.Logout session)) = None
named_handle (Some (call.GetSessionInfo session)) = None
named_handle (Some (call.SessionCancel session flags)) = None
named_handle (Some call.GetTokenInfo) = None
named_handle (Some call.GetMechanismList) = None
named_handle (Some (call.CreateObject session template)) = None
named_handle (Some (call.GenerateKey session mechanism template random)) = None
named_handle (Some (call.FindObjectsInit session template)) = None
named_handle (Some (call.FindObjects session max)) = None
named_handle (Some (call.FindObjectsFinal session)) = None
named_handle (Some (call.DigestInit session mechanism)) = None
named_handle (Some (call.Digest session bytes room)) = None
named_handle (Some (call.DigestUpdate session bytes)) = None
named_handle (Some (call.DigestFinal session room)) = None
named_handle (Some (call.Sign session bytes room)) = None
named_handle (Some (call.SignUpdate session bytes)) = None
named_handle (Some (call.SignFinal session room)) = None
named_handle (Some (call.Verify session bytes signature)) = None
named_handle (Some (call.VerifyUpdate session bytes)) = None
named_handle (Some (call.VerifyFinal session signature)) = None

-- the handle names an object, and where that is private the normal user is logged in
pub record NamesObject (h : History) (handle : ℕ) : Type 0 where
  pub number : ℕ
  pub named : object_named h handle ≡ Some number
  pub login : IsPrivate h number → login h ≡ Some user.User

-- the handle of a call that was answered OK names an object just before, and the normal user is
-- logged in there if the object is private
abbrev pub PrivateObjectsAreNamedByTheUser : Type 0
PrivateObjectsAreNamedByTheUser =
    (limits : Ranges) (e : Entry) (h : History) → IsSoundHistory limits (e ◁ h) → (handle : ℕ)
    → named_handle (done e) ≡ Some handle → NamesObject h handle

-- the entry answers a C_GetAttributeValue of this handle with answers to its queries, whatever its
-- code
pub record GivesAttributes (e : Entry) (handle : ℕ) : Type 0 where
  pub session : ℕ
  pub queries : List AttributeQuery
  pub answers : List Answer
  pub asks : e.call ≡ call.GetAttributeValue session handle queries
  pub returns : e.reply.body ≡ body.Attributes answers

-- a handle whose queries are answered names an object just before, and the normal user is logged in
-- there if the object is private
abbrev pub PrivateAttributesAreGivenToTheUser : Type 0
PrivateAttributesAreGivenToTheUser =
    (limits : Ranges) (e : Entry) (h : History) → IsSoundHistory limits (e ◁ h) → (handle : ℕ)
    → GivesAttributes e handle → NamesObject h handle

abbrev pub searches : Option Call → Bool
searches (Some (call.FindObjects session max)) = true
searches other = false

abbrev pub handle_made : Body → List ℕ
handle_made (body.Handle handle) = handle ∷ []
handle_made other = []

-- the handles of objects that an entry returns: that of the object that it creates, or those that
-- it finds
abbrev pub returned_objects : Entry → List ℕ
returned_objects e =
    if creates (done e) then handle_made e.reply.body
    else if searches (done e) then handles_in e.reply.body
    else []

-- a handle of a private object is returned only where the normal user is logged in just before
abbrev pub PrivateHandlesAreReturnedToTheUser : Type 0
PrivateHandlesAreReturnedToTheUser =
    (limits : Ranges) (e : Entry) (h : History) → IsSoundHistory limits (e ◁ h)
    → (place handle n : ℕ) → slice_get (returned_objects e) place ≡ Some handle
    → IsPrivate (e ◁ h) n → handle_of (e ◁ h) n ≡ handle → login h ≡ Some user.User

-- every handle of an object that an entry returns names an object just after it
abbrev pub ReturnedHandlesNameObjects : Type 0
ReturnedHandlesNameObjects =
    (limits : Ranges) (e : Entry) (h : History) → IsSoundHistory limits (e ◁ h)
    → (place handle : ℕ) → slice_get (returned_objects e) place ≡ Some handle
    → (n : ℕ) × (object_named (e ◁ h) handle ≡ Some n)

-- the handles name objects that the session's search found when it started and hasn't returned, in
-- ascending order of their numbers, and are at most as many as were asked for
pub record ReturnsMatches (h : History) (session max : ℕ) (handles : List ℕ) : Type 0 where
  pub numbers : List ℕ
  pub named : AllZip (λ handle n. object_named h handle ≡ Some n) handles numbers
  pub found : All (λ n. Contains (found_objects h session) n) numbers
  pub fresh : All (λ n. last_number h session < n) numbers
  pub rising : AllPairs (λ n m. n < m) numbers
  pub most : length handles ≤ max

-- what C_FindObjects returns is so just before
abbrev pub SearchesReturnMatches : Type 0
SearchesReturnMatches =
    (limits : Ranges) (e : Entry) (h : History) → IsSoundHistory limits (e ◁ h)
    → (session max : ℕ) (handles : List ℕ) → done e ≡ Some (call.FindObjects session max)
    → e.reply.body ≡ body.Handles handles → ReturnsMatches h session max handles
