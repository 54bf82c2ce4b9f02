-- Searches for objects (PKCS #11 Base 3.0, Object management functions)
use Rattle.std.specs.Prelude.{ℕ, ◌^◌, ◌%◌, Bool, true, false, List, [], ◌∷◌, Option, Some, ◌==◌}
use Rattle.std.specs.Prelude.{◌&&◌, nat_lt, filter, map, if◌then◌else◌}
use Rattle.ck_objects.specs.Records.{matches}
use Rattle.ck_objects.specs.declared.items.Item.{Item}
use Rattle.ck_journal.specs.declared.replies.Body.{Body}
use Rattle.ck_journal.specs.declared.replies.Body.TheVariants as body
use Rattle.ck_journal.specs.declared.calls.Call.{Call}
use Rattle.ck_journal.specs.declared.calls.Call.TheVariants as call
use Rattle.ck_journal.specs.declared.calls.Entry.{Entry}
use Rattle.ck_journal.specs.Histories.{History, start, ◌◁◌, done}
use Rattle.ck_journal.specs.Objects.{creations, object_at, view_of, is_some_with, is_visible_with}
use Rattle.ck_journal.specs.Objects.{is_visible}
use Rattle.ck_journal.specs.Sessions.{numbers, ends_operations}
use Rattle.ck_journal.specs.declared.views.View.{View}

-- ---- a session's search

-- the call starts a search in the session
abbrev pub starts_search : Option Call → ℕ → Bool
starts_search (Some (call.FindObjectsInit session template)) s = session == s
starts_search other s = false

-- the call ends the session's search: C_FindObjectsFinal, and what ends all operations of the
-- session
abbrev pub ends_search : Option Call → ℕ → Bool
ends_search (Some (call.FindObjectsFinal session)) s = session == s
ends_search other s = ends_operations other s

-- a search is active in the session: one was started, and no later call ended it
abbrev pub is_searching : History → ℕ → Bool
is_searching (start b) s = false
is_searching (e ◁ h) s =
    if starts_search (done e) s then true
    else if ends_search (done e) s then false
    else is_searching h s

-- ---- what it found

-- the attributes are those of a visible object that matches the template
abbrev pub is_match_with : View → List Item → List Item → Bool
is_match_with view template attributes =
    is_visible_with view attributes && matches attributes template

-- the numbers of the objects that are visible and match the template, in ascending order
abbrev pub matching_objects : History → List Item → List ℕ
matching_objects h template =
    filter (λ n. is_some_with (is_match_with (view_of h) template) (object_at h n))
    (numbers (creations h))

abbrev pub search_template : Option Call → List Item
search_template (Some (call.FindObjectsInit session template)) = template.items
search_template other = []

-- what the session's last search found when it started
abbrev pub found_objects : History → ℕ → List ℕ
found_objects (start b) s = []
found_objects (e ◁ h) s =
    if starts_search (done e) s then matching_objects (e ◁ h) (search_template (done e))
    else found_objects h s

-- ---- what it has returned

-- the number of the object that a handle is of
abbrev pub number_of_handle : ℕ → ℕ
number_of_handle handle = handle % 2 ^ 32

-- the call asks the session's search for objects
abbrev pub asks_search : Option Call → ℕ → Bool
asks_search (Some (call.FindObjects session max)) s = session == s
asks_search other s = false

abbrev pub handles_in : Body → List ℕ
handles_in (body.Handles handles) = handles
handles_in other = []

-- the handles that an entry returns from the session's search
abbrev pub returned_handles : Entry → ℕ → List ℕ
returned_handles e s = if asks_search (done e) s then handles_in e.reply.body else []

-- the last of these numbers, or this one where there is none
abbrev pub last_or : ℕ → List ℕ → ℕ
last_or before [] = before
last_or before (n ∷ ns) = last_or n ns

-- the number of the object that the session's last search returned last; 0, which is no object's,
-- where none
abbrev pub last_number : History → ℕ → ℕ
last_number (start b) s = 0
last_number (e ◁ h) s =
    if starts_search (done e) s then 0
    else last_or (last_number h s) (map number_of_handle (returned_handles e s))

-- ---- what it has left

-- what was found and stands after what was returned
abbrev pub remaining_objects : History → ℕ → List ℕ
remaining_objects h s = filter (λ n. nat_lt (last_number h s) n) (found_objects h s)

-- of these, the numbers of the objects that are visible now
abbrev pub search_rest : History → ℕ → List ℕ
search_rest h s = filter (is_visible h) (remaining_objects h s)
