-- How searches move by one entry
use Rattle.std.proofs.Common.{◌≡◌, ℕ, false, cond, List, Option, Some, refl, ap, ◌∙◌}
use Rattle.std.specs.Prelude.{filter}
use Rattle.std.proofs.lemmas.List.Elements.{filter_agree}
use Rattle.ck_objects.specs.declared.items.Item.{Item}
use Rattle.ck_types.specs.declared.users.UserType.TheVariants as user
use Rattle.ck_journal.specs.declared.calls.Call.{Call}
use Rattle.ck_journal.specs.declared.calls.Call.TheVariants as call
use Rattle.ck_journal.specs.declared.calls.Entry.{Entry}
use Rattle.ck_journal.specs.declared.views.View.{View}
use Rattle.ck_journal.specs.Histories.{History, ◌◁◌, done}
use Rattle.ck_journal.specs.Effects.{effects_of, effects}
use Rattle.ck_journal.specs.Objects.{creations, object_at, is_some_with, view_of}
use Rattle.ck_journal.specs.Pins.{is_user}
use Rattle.ck_journal.specs.Searches.{starts_search, ends_search, asks_search, is_searching}
use Rattle.ck_journal.specs.Searches.{is_match_with, matching_objects, search_template}
use Rattle.ck_journal.specs.Searches.{found_objects}
use Rattle.ck_journal.specs.Searches.{last_number}
use Rattle.ck_journal.specs.Sessions.{numbers, login, user_logins}
use Rattle.ck_journal.proofs.LoginMoves.{login-left, user_logins-left}
use Rattle.ck_journal.proofs.ObjectMoves.{creations-left, object_at-left}

-- ---- an entry that leaves searches as they are

starts-left : (c : Option Call) (s : ℕ) → (effects_of c).searches ≡ false
    → starts_search c s ≡ false
starts-left (Some (call.InitToken pin)) s l = refl
starts-left other s l = cc

ends-left : (c : Option Call) (s : ℕ) → (effects_of c).searches ≡ false → ends_search c s ≡ false
ends-left (Some (call.InitToken pin)) s l = refl
ends-left other s l = cc

asks-left : (c : Option Call) (s : ℕ) → (effects_of c).searches ≡ false → asks_search c s ≡ false
asks-left (Some (call.InitToken pin)) s l = refl
asks-left other s l = cc

module _ (e : Entry) (h : History) (l : (effects e).searches ≡ false) (s : ℕ) where
  pub is_searching-left : is_searching (e ◁ h) s ≡ is_searching h s
  is_searching-left = rw (starts-left (done e) s l, ends-left (done e) s l) refl

  pub found_objects-left : found_objects (e ◁ h) s ≡ found_objects h s
  found_objects-left =
      ap (λ t. cond t (matching_objects (e ◁ h) (search_template (done e))) (found_objects h s))
      (starts-left (done e) s l)

  pub last_number-left : last_number (e ◁ h) s ≡ last_number h s
  last_number-left = rw (starts-left (done e) s l, asks-left (done e) s l) refl

-- ---- an entry that leaves what a search would find

module _ (e : Entry) (h : History) where
  module _ (l : (effects e).sessions ≡ false) where
    pub view_of-left : view_of (e ◁ h) ≡ view_of h
    view_of-left =
        ap (λ u. record { is_user_in = is_user user.User u; logins = user_logins (e ◁ h) })
        (login-left e h l)
        ∙ ap (λ n. record { is_user_in = is_user user.User (login h); logins = n })
        (user_logins-left e h l)

  module _ (lo : (effects e).objects ≡ false) (ls : (effects e).sessions ≡ false) where
    pub matching_objects-left : (template : List Item)
        → matching_objects (e ◁ h) template ≡ matching_objects h template
    matching_objects-left template =
        ap (λ n. filter (λ k. is_some_with (is_match_with (view_of (e ◁ h)) template)
        (object_at (e ◁ h) k))
        (numbers n)) (creations-left e h lo)
        ∙ filter_agree (λ k. is_some_with (is_match_with (view_of (e ◁ h)) template)
        (object_at (e ◁ h) k))
        (λ k. is_some_with (is_match_with (view_of h) template) (object_at h k))
        (λ k. ap (λ (v : View). is_some_with (is_match_with v template) (object_at (e ◁ h) k))
        (view_of-left ls)
        ∙ ap (is_some_with (is_match_with (view_of h) template)) (object_at-left e h lo k))
        (numbers (creations h))
