-- A journal that is cut: the base that the calls so far leave, and what it must be for the calls
-- after it to be answered as before
use Rattle.std.specs.Prelude.{◌≡◌, ◌↔◌, ℕ, List, [], filter_map, option_map}
use Rattle.ck_types.specs.TokenLimits.{Ranges}
use Rattle.ck_objects.specs.declared.items.Item.{Item}
use Rattle.ck_types.specs.declared.users.UserType.TheVariants as user
use Rattle.ck_journal.specs.declared.bases.Base.{Base}
use Rattle.ck_journal.specs.declared.bases.KeptObject.{KeptObject}
use Rattle.ck_journal.specs.declared.calls.Call.{Call}
use Rattle.ck_journal.specs.declared.calls.Entry.{Entry}
use Rattle.ck_journal.specs.Answers.{answer, IsLegal}
use Rattle.ck_journal.specs.Bases.{IsSound}
use Rattle.ck_journal.specs.Histories.{History, start, followed_by}
use Rattle.ck_journal.specs.Laws.{IsSoundHistory}
use Rattle.ck_journal.specs.Objects.{creations, object_at, view_of}
use Rattle.ck_journal.specs.Pins.{is_initialized, so_pin, user_pin, tries}
use Rattle.ck_journal.specs.Sessions.{numbers, openings, open_sessions, user_logins}

abbrev pub kept_object : ℕ → List Item → KeptObject
kept_object n attributes = record { number = n; attributes = attributes }

-- the objects that haven't ended, in the order of their creations
abbrev pub kept_objects : History → List KeptObject
kept_objects h =
    filter_map (λ n. option_map (kept_object n) (object_at h n)) (numbers (creations h))

-- the base that a history leaves where no session is open, and so all objects are token objects
abbrev pub base_of : History → Base
base_of h = record {
  initialized = is_initialized h;
  so = so_pin h;
  user = user_pin h;
  so_tries = tries user.So h;
  user_tries = tries user.User h;
  openings = openings h;
  creations = creations h;
  logins = user_logins h;
  objects = kept_objects h;
}

-- in both histories the same objects are there, under the same handles, and every call is answered
-- alike
pub record IsSeenAs (limits : Ranges) (h g : History) : Type 0 where
  pub objects : object_at g ≡ object_at h
  pub view : view_of g ≡ view_of h
  pub answers : (c : Call) → answer limits g c ≡ answer limits h c

-- whatever is called later is legal from the base exactly where it is after the history, and where
-- it is, both histories are seen alike
abbrev pub IsLeftBy : Ranges → History → Base → Type 0
IsLeftBy limits h b = (later : List Entry)
    → (IsLegal limits (followed_by (start b) later) ↔ IsLegal limits (followed_by h later))
    × (IsLegal limits (followed_by h later)
    → IsSeenAs limits (followed_by h later) (followed_by (start b) later))

-- a legal history that starts from a sound base, and in which no session is open, leaves a sound
-- base, from which all later calls are answered as after the history
abbrev pub CutLaw : Type 0
CutLaw = (limits : Ranges) (h : History) → IsSoundHistory limits h → open_sessions h ≡ []
    → IsSound (base_of h) × IsLeftBy limits h (base_of h)

-- a history without entries leaves the sound base that it starts from
abbrev pub BaseLaw : Type 0
BaseLaw = (b : Base) → IsSound b → base_of (start b) ≡ b
