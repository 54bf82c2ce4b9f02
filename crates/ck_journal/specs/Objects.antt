-- Objects, their attributes and handles, and when they end (PKCS #11 Base 3.0, Object management
-- functions)
use Rattle.std.specs.Prelude.{ℕ, suc, ◌+◌, ◌*◌, ◌^◌, Bool, true, false, List, [], Option, Some}
use Rattle.std.specs.Prelude.{None, ◌==◌, ◌&&◌, ◌||◌, not, find, option_and_then, unwrap_or}
use Rattle.std.specs.Prelude.{if◌then◌else◌}
use Rattle.std.specs.Option.{option_map_or}
use Rattle.ck_objects.specs.KeyStates.{state_of_number}
use Rattle.ck_objects.specs.Records.{created_items, generated_items, with_given, with_state, is_set}
use Rattle.ck_objects.specs.Records.{is_key}
use Rattle.ck_objects.specs.declared.attributes.Attribute.TheVariants as attribute
use Rattle.ck_objects.specs.declared.items.Item.{Item}
use Rattle.ck_objects.specs.declared.key_states.KeyState.{KeyState}
use Rattle.ck_types.specs.declared.users.UserType.TheVariants as user
use Rattle.ck_journal.specs.declared.views.View.{View}
use Rattle.ck_journal.specs.declared.calls.Call.{Call}
use Rattle.ck_journal.specs.declared.calls.Call.TheVariants as call
use Rattle.ck_journal.specs.Bases.{kept_attributes}
use Rattle.ck_journal.specs.Histories.{History, start, ◌◁◌, done}
use Rattle.ck_journal.specs.Pins.{is_user}
use Rattle.ck_journal.specs.Sessions.{numbers, login, user_logins}

-- ---- creations

abbrev pub creates : Option Call → Bool
creates (Some (call.CreateObject session template)) = true
creates (Some (call.GenerateKey session mechanism template random)) = true
creates (Some (call.CopyObject session object template)) = true
creates other = false

-- how many objects have been created; an object's number is this count, its own creation included
abbrev pub creations : History → ℕ
creations (start b) = b.creations
creations (e ◁ h) = if creates (done e) then suc (creations h) else creations h

abbrev pub creation_session : Option Call → ℕ
creation_session (Some (call.CreateObject session template)) = session
creation_session (Some (call.GenerateKey session mechanism template random)) = session
creation_session (Some (call.CopyObject session object template)) = session
creation_session other = 0

-- the session that created the object; 0, which is no session's handle, where none did
abbrev pub session_of : History → ℕ → ℕ
session_of (start b) n = 0
session_of (e ◁ h) n =
    if creates (done e) && n == suc (creations h) then creation_session (done e) else session_of h n

-- ---- handles

-- the normal user is logged in
abbrev pub is_user_in : History → Bool
is_user_in h = is_user user.User (login h)

abbrev pub view_of : History → View
view_of h = record { is_user_in = is_user_in h; logins = user_logins h }

-- an object with these attributes is visible where it is public or the normal user is logged in
abbrev pub is_visible_with : View → List Item → Bool
is_visible_with view attributes = not (is_set attributes attribute.Private) || view.is_user_in

-- the handle of a public object is its number, that of a private one its number and 2^32 for each
-- login of the user so far
abbrev pub handle_with : View → List Item → ℕ → ℕ
handle_with view attributes n =
    if is_set attributes attribute.Private then n + 2 ^ 32 * view.logins else n

-- the handle names the object with these attributes and this number: the object is visible, and
-- this is its handle
abbrev pub names_with : View → List Item → ℕ → ℕ → Bool
names_with view attributes handle n =
    is_visible_with view attributes && handle_with view attributes n == handle

-- there are attributes, and they pass the test
abbrev pub is_some_with : (List Item → Bool) → Option (List Item) → Bool
is_some_with test attributes = option_map_or test attributes false

-- among objects by their numbers up to a count: the number of the one that the handle names
abbrev pub number_among : View → (ℕ → Option (List Item)) → ℕ → ℕ → Option ℕ
number_among view object count handle =
    find (λ n. is_some_with (λ attributes. names_with view attributes handle n) (object n))
    (numbers count)

-- and its attributes
abbrev pub attributes_among : View → (ℕ → Option (List Item)) → ℕ → ℕ → Option (List Item)
attributes_among view object count handle =
    option_and_then object (number_among view object count handle)

-- ---- what a call does to an object

-- the attributes of the object that a call creates; `named` gives those of the object that a handle
-- names, which a copy reads
abbrev pub creation_attributes : Option Call → (ℕ → Option (List Item)) → List Item
creation_attributes (Some (call.CreateObject session template)) named =
    created_items template.items
creation_attributes (Some (call.GenerateKey session mechanism template random)) named =
    generated_items template.items random
creation_attributes (Some (call.CopyObject session object template)) named =
    with_given template.items (unwrap_or (named object) [])
creation_attributes other named = []

abbrev pub is_session_object : List Item → Bool
is_session_object attributes = not (is_set attributes attribute.Token)

-- the attributes of a key in this state; as they are where there is none
abbrev pub in_state : Option KeyState → List Item → List Item
in_state None attributes = attributes
in_state (Some state) attributes = with_state state attributes

-- the attributes that a call leaves to the object of number n, which this session created, or None
-- where it ends the object: a destruction that names it, an initialization of the token, for a
-- session object the closing of its session or of all sessions, and for a private session object a
-- logout
abbrev pub object_after : Option Call → View → ℕ → ℕ → List Item → Option (List Item)
object_after (Some (call.DestroyObject session object)) view n creator attributes =
    if names_with view attributes object n then None else Some attributes
object_after (Some (call.SetAttributeValue session object template)) view n creator attributes =
    Some (if names_with view attributes object n then with_given template.items attributes
    else attributes)
object_after (Some (call.SetKeyState session key state)) view n creator attributes =
    Some (if names_with view attributes key n then in_state (state_of_number state) attributes
    else attributes)
object_after (Some (call.InitToken pin)) view n creator attributes = None
object_after (Some (call.CloseSession session)) view n creator attributes =
    if is_session_object attributes && session == creator then None else Some attributes
object_after (Some call.CloseAllSessions) view n creator attributes =
    if is_session_object attributes then None else Some attributes
object_after (Some (call.Logout session)) view n creator attributes =
    if is_session_object attributes && is_set attributes attribute.Private then None
    else Some attributes
object_after other view n creator attributes = Some attributes

-- the attributes of the object of this number, where it has been created and hasn't ended since. A
-- copy's source is `attributes_named h` below, written out here, since that is defined by this.
abbrev pub object_at : History → ℕ → Option (List Item)
object_at (start b) n = kept_attributes b n
object_at (e ◁ h) n =
    if creates (done e) && n == suc (creations h)
    then Some (creation_attributes (done e)
    (attributes_among (view_of h) (object_at h) (creations h)))
    else option_and_then (object_after (done e) (view_of h) n (session_of h n)) (object_at h n)

-- ---- readings of a history

abbrev pub is_visible : History → ℕ → Bool
is_visible h n = is_some_with (is_visible_with (view_of h)) (object_at h n)

-- the number of the object that the handle names
abbrev pub object_named : History → ℕ → Option ℕ
object_named h handle = number_among (view_of h) (object_at h) (creations h) handle

-- its attributes, where the handle names one
abbrev pub attributes_named : History → ℕ → Option (List Item)
attributes_named h handle = attributes_among (view_of h) (object_at h) (creations h) handle

-- its attributes; none where the handle names no object
abbrev pub attributes_or_empty : History → ℕ → List Item
attributes_or_empty h handle = unwrap_or (attributes_named h handle) []

-- its attributes, where the handle names a key
abbrev pub key_named : History → ℕ → Option (List Item)
key_named h handle =
    option_and_then (λ attributes. if is_key attributes then Some attributes else None)
    (attributes_named h handle)

-- the handle of the object of this number; 0, which is no handle, where there is none
abbrev pub handle_of : History → ℕ → ℕ
handle_of h n = option_map_or (λ attributes. handle_with (view_of h) attributes n) (object_at h n) 0
