-- Objects in a slab, and the places that name them
use Rattle.std.specs.Prelude.{◌≡◌, ◌⊎◌, ℕ, ◌<◌, ◌≤◌, Bool, true, false, ◌==◌, List, Option, Some}
use Rattle.std.specs.Prelude.{is_some, filter_map, option_map, option_and_then, AllPairs, Contains}
use Rattle.std.specs.Prelude.{None, if◌then◌else◌, ◌&&◌, ◌+◌, ◌*◌, length}
use Rattle.std.specs.Bool.{beq}
use Rattle.slab.specs.Slab.{Slab, get, slab_len}
use Rattle.ck_objects.specs.Records.{is_set, with_given}
use Rattle.ck_objects.specs.declared.attributes.Attribute.TheVariants as attribute
use Rattle.ck_objects.specs.declared.items.Item.{Item}
use Rattle.ck_store.specs.Rows.{ObjectRow, has_number, is_private_row, with_attributes}
use Rattle.ck_store.specs.declared.places.Place.{Place}
use Rattle.ck_store.specs.declared.session_lists.SessionList.{SessionList}

abbrev pub place : ℕ → ℕ → Place
place number key = record { number = number; key = key }

abbrev pub is_at : ℕ → Place → Bool
is_at number place = place.number == number

abbrev pub numbered : ℕ → ObjectRow → Option ObjectRow
numbered number row = if has_number number row then Some row else None

-- the object of a place, where it hasn't ended; its key may have another object since
abbrev pub object_at : Slab ObjectRow → Place → Option ObjectRow
object_at objects place = option_and_then (numbered place.number) (get objects place.key)

abbrev pub is_there : Slab ObjectRow → Place → Bool
is_there objects place = is_some (object_at objects place)

-- the objects of these places that haven't ended
abbrev pub objects_at : Slab ObjectRow → List Place → List ObjectRow
objects_at objects places = filter_map (object_at objects) places

-- each number is below all later ones
abbrev pub PlacesRise : List Place → Type 0
PlacesRise index = AllPairs (λ (p : Place) (later : Place). p.number < later.number) index

-- the index rises, and names each object
pub record IsIndex (objects : Slab ObjectRow) (index : List Place) : Type 0 where
  pub rises : PlacesRise index
  pub named : (key : ℕ) (row : ObjectRow) → get objects key ≡ Some row
      → Contains index (place row.number key)

-- it is the session's list of private objects, or of public ones
abbrev pub is_list_of : ℕ → Bool → SessionList → Bool
is_list_of session private list = list.session == session && beq list.private private

-- the place is in such a list of the session
pub record IsListed (lists : List SessionList) (session : ℕ) (private : Bool) (p : Place)
    : Type 0 where
  pub list : SessionList
  pub among : Contains lists list
  pub own : list.session ≡ session
  pub mark : list.private ≡ private
  pub holds : Contains list.places.items p

-- the object belongs in such a list of the session
pub record IsOwn (session : ℕ) (private : Bool) (row : ObjectRow) : Type 0 where
  pub owner : row.session ≡ Some session
  pub mark : is_private_row row ≡ private

-- what the fields of a store keep: the index rises and names each object; each session object is in
-- a list of its session or is the unlisted one; the objects of a list are of its session, and all
-- private or all public, as the list says; no number is above the count of creations
pub record IsIntact (objects : Slab ObjectRow) (index : List Place) (lists : List SessionList)
    (unlisted : Option Place) (creations : ℕ) : Type 0 where
  pub indexed : IsIndex objects index
  pub listed : (key : ℕ) (row : ObjectRow) (session : ℕ) → get objects key ≡ Some row
      → row.session ≡ Some session
      → ((private : Bool) × IsListed lists session private (place row.number key))
      ⊎ (unlisted ≡ Some (place row.number key))
  pub own : (session : ℕ) (private : Bool) (p : Place) (row : ObjectRow)
      → IsListed lists session private p → object_at objects p ≡ Some row
      → IsOwn session private row
  pub index_created : (p : Place) → Contains index p → p.number ≤ creations
  pub unlisted_created : (p : Place) → unlisted ≡ Some p → p.number ≤ creations
  pub lists_created : (session : ℕ) (private : Bool) (p : Place) → IsListed lists session private p
      → p.number ≤ creations

-- the index never has more than twice as many places as there are objects, and one
abbrev pub IsShort : Slab ObjectRow → List Place → Type 0
IsShort objects index = length index ≤ 2 * slab_len objects + 1

-- ---- what becomes of the objects

-- the key of the object that has the number
pub record IsKeyOf (objects : Slab ObjectRow) (number : ℕ) (found : Option ℕ) : Type 0 where
  pub has : (key : ℕ) → found ≡ Some key
      → (row : ObjectRow) × (get objects key ≡ Some row) × (has_number number row ≡ true)
  pub only : (key : ℕ) (row : ObjectRow) → get objects key ≡ Some row
      → has_number number row ≡ true → found ≡ Some key

-- each object is changed so, and stays under its key
abbrev pub IsChanged : (ObjectRow → ObjectRow) → Slab ObjectRow → Slab ObjectRow → Type 0
IsChanged change old new = (key : ℕ) → get new key ≡ option_map change (get old key)

-- the object of the number has other attributes, the old ones with the values; it is private
-- exactly where it was
pub record IsGiven (number : ℕ) (values : List Item) (old new : Slab ObjectRow) : Type 0 where
  pub attributes : List Item
  pub changed : IsChanged (with_attributes number attributes) old new
  pub given : (key : ℕ) (row : ObjectRow) → get old key ≡ Some row → has_number number row ≡ true
      → attributes ≡ with_given values row.attributes
  pub private : (key : ℕ) (row : ObjectRow) → get old key ≡ Some row → has_number number row ≡ true
      → is_set attributes attribute.Private ≡ is_private_row row

-- objects that pass the test may be there no more; all others are, each under its key
abbrev pub LeavesOthers : (ObjectRow → Bool) → Slab ObjectRow → Slab ObjectRow → Type 0
LeavesOthers test old new = (key : ℕ) → (get new key ≡ get old key)
    ⊎ ((get new key ≡ None) × ((row : ObjectRow) → get old key ≡ Some row → test row ≡ true))

-- the place has no object that passes the test
abbrev pub HasNone : (ObjectRow → Bool) → Slab ObjectRow → Place → Type 0
HasNone test objects p = (row : ObjectRow) → object_at objects p ≡ Some row → test row ≡ false

-- no object that passes the test is there
abbrev pub EndsAll : (ObjectRow → Bool) → Slab ObjectRow → Type 0
EndsAll test objects =
    (key : ℕ) (row : ObjectRow) → get objects key ≡ Some row → test row ≡ false
