-- An object as the store has it
use Rattle.std.specs.Prelude.{◌≡◌, ℕ, Bool, true, false, List, Option, Some, None, ◌==◌, ◌&&◌}
use Rattle.std.specs.Prelude.{filter, is_some, map, option_and_then, if◌then◌else◌}
use Rattle.std.specs.Option.{option_map_or}
use Rattle.ck_objects.specs.Records.{is_set, with_state, changed_error, protections_of}
use Rattle.ck_objects.specs.Templates.{class_of}
use Rattle.ck_objects.specs.declared.attributes.Attribute.TheVariants as attribute
use Rattle.ck_objects.specs.declared.items.Item.{Item}
use Rattle.ck_objects.specs.declared.key_states.KeyState.{KeyState}
use Rattle.ck_journal.specs.Cuts.{kept_object}
use Rattle.ck_journal.specs.Objects.{is_session_object, is_visible_with, handle_with}
use Rattle.ck_journal.specs.Searches.{is_match_with}
use Rattle.ck_journal.specs.declared.bases.KeptObject.{KeptObject}
use Rattle.ck_journal.specs.declared.views.View.{View}
use Rattle.ck_store.specs.declared.endings.Ending.{Ending}
use Rattle.ck_store.specs.declared.endings.Ending.TheVariants as ending

-- an object's number, the session that created it, where it is a session object, and its attributes
pub record ObjectRow : Type 0 where
  pub number : ℕ
  pub session : Option ℕ
  pub attributes : List Item

-- the session of an object with these attributes, by the one that created it; a token object
-- belongs to no session
abbrev pub owning_session : ℕ → List Item → Option ℕ
owning_session session attributes = if is_session_object attributes then Some session else None

abbrev pub object_row : ℕ → ℕ → List Item → ObjectRow
object_row number session attributes =
    record { number = number; session = owning_session session attributes; attributes = attributes }

-- ---- tests of an object

abbrev pub has_number : ℕ → ObjectRow → Bool
has_number number row = row.number == number

-- it is a session object of this session
abbrev pub is_of_session : ℕ → ObjectRow → Bool
is_of_session session row = option_map_or (λ owner. session == owner) row.session false

abbrev pub is_session_row : ObjectRow → Bool
is_session_row row = is_some row.session

abbrev pub is_private_row : ObjectRow → Bool
is_private_row row = is_set row.attributes attribute.Private

abbrev pub is_private_session_row : ObjectRow → Bool
is_private_session_row row = is_session_row row && is_private_row row

-- it is a session object that the ending ends
abbrev pub is_ended_by : Ending → ObjectRow → Bool
is_ended_by (ending.Session session) row = is_of_session session row
is_ended_by ending.AllSessions row = is_session_row row
is_ended_by ending.Logout row = is_private_session_row row

-- the ending ends the objects of the session's list of private objects, or of that of public ones
abbrev pub concerns : Ending → ℕ → Bool → Bool
concerns (ending.Session closed) session private = closed == session
concerns ending.AllSessions session private = true
concerns ending.Logout session private = private

-- it is visible and matches the template
abbrev pub is_match : View → List Item → ObjectRow → Bool
is_match view template row = is_match_with view template row.attributes

-- the values pass the checks of a change of the object
abbrev pub PassesChange : List Item → ObjectRow → Type 0
PassesChange values row =
    changed_error (class_of row.attributes) (protections_of row.attributes) values ≡ None

-- ---- readings of an object

-- its handle, where it is visible
abbrev pub visible_handle : View → ObjectRow → Option ℕ
visible_handle view row =
    if is_visible_with view row.attributes
    then Some (handle_with view row.attributes row.number)
    else None

-- the object as a base has it
abbrev pub kept_of : ObjectRow → KeptObject
kept_of row = kept_object row.number row.attributes

-- the object of this number with other attributes; another object as it is
abbrev pub with_attributes : ℕ → List Item → ObjectRow → ObjectRow
with_attributes number attributes row =
    if has_number number row then record row { attributes = attributes } else row

-- the object of this number, a key, in this state; another object as it is
abbrev pub with_key_state : ℕ → KeyState → ObjectRow → ObjectRow
with_key_state number state row =
    if has_number number row
    then record row { attributes = with_state state row.attributes }
    else row

-- the number of an object that is visible and matches the template
abbrev pub matching_number : View → List Item → Option ObjectRow → Option ℕ
matching_number view template object = option_and_then
    (λ (row : ObjectRow). if is_match view template row then Some row.number else None) object

-- ---- lists of objects

-- the numbers of the objects that are visible and match the template
abbrev pub matching_numbers : View → List Item → List ObjectRow → List ℕ
matching_numbers view template rows =
    map (λ (row : ObjectRow). row.number) (filter (is_match view template) rows)
