-- Two histories that agree on all that is open, there and active give the same answers
use Rattle.std.proofs.Common.{◌≡◌, ℕ, suc, Bool, true, false, cond, not, List, [], ◌∷◌, Option}
use Rattle.std.proofs.Common.{Some, None, length, refl, ap, ◌∙◌}
use Rattle.std.specs.Prelude.{◌==◌, nat_le, nat_lt, filter, option_and_then, unwrap_or, is_none}
use Rattle.std.specs.Prelude.{if◌then◌else◌}
use Rattle.std.specs.List.{list_any, concat}
use Rattle.std.specs.Option.{option_map_or}
use Rattle.std.proofs.Math.Path.{fun_ext}
use Rattle.std.proofs.lemmas.Bool.{not-false}
use Rattle.ck_types.specs.Checks.{error_if, or_else, first_of}
use Rattle.ck_types.specs.Pins.{fits_a_pin}
use Rattle.ck_mac.specs.Computations.{tag_of}
use Rattle.ck_mac.specs.Macs.{signature_error}
use Rattle.ck_objects.specs.Records.{created_items, generated_items, with_given, is_key}
use Rattle.ck_objects.specs.Records.{placement_of}
use Rattle.ck_types.specs.TokenLimits.{Ranges}
use Rattle.ck_types.specs.Users.{user_of}
use Rattle.ck_types.specs.declared.errors.RvError.{RvError}
use Rattle.ck_types.specs.declared.errors.RvError.TheVariants as rv_error
use Rattle.ck_objects.specs.declared.items.Item.{Item}
use Rattle.ck_types.specs.declared.mechanisms.Mechanism.{Mechanism}
use Rattle.ck_objects.specs.declared.object_flags.Placement.{Placement}
use Rattle.ck_types.specs.declared.pins.Pin.{Pin}
use Rattle.ck_types.specs.declared.users.UserType.{UserType}
use Rattle.ck_types.specs.declared.users.UserType.TheVariants as user
use Rattle.ck_types.proofs.CheckLemmas.{or_else-none, error_if-none}
use Rattle.ck_journal.specs.declared.calls.Call.{Call}
use Rattle.ck_journal.specs.declared.calls.Call.TheVariants as call
use Rattle.ck_journal.specs.declared.operations.OperationKind.{OperationKind}
use Rattle.ck_journal.specs.declared.operations.OperationKind.TheVariants as kind
use Rattle.ck_journal.specs.declared.replies.Body.TheVariants as body
use Rattle.ck_journal.specs.declared.replies.Reply.{Reply}
use Rattle.ck_journal.specs.Answers.{ok, unless, new_handle, session_error, pin_error}
use Rattle.ck_journal.specs.Answers.{read_only_error, logins_error, user_login_error}
use Rattle.ck_journal.specs.Answers.{known_login_error, placement_error, creations_error}
use Rattle.ck_journal.specs.Answers.{call_error, allowed_reply, answer}
use Rattle.ck_journal.specs.Answers.{object_error, copy_error, change_error, destruction_error}
use Rattle.ck_journal.specs.Answers.{key_error, state_change_error}
use Rattle.ck_journal.specs.Answers.{operation_error, search_error, present_key_error}
use Rattle.ck_journal.specs.Answers.{key_state_error, message_error, update_error, final_error}
use Rattle.ck_journal.specs.Answers.{verify_error, verify_final_error, tag_in, hmac_init_error}
use Rattle.ck_journal.specs.Histories.{History}
use Rattle.ck_journal.specs.Objects.{creations, object_at, view_of, is_session_object, session_of}
use Rattle.ck_journal.specs.Objects.{object_named, attributes_named, key_named, attributes_or_empty}
use Rattle.ck_journal.specs.Objects.{attributes_among, number_among, is_some_with, is_visible}
use Rattle.ck_journal.specs.Objects.{is_visible_with, handle_of, handle_with}
use Rattle.ck_journal.specs.Operations.{is_active, computation_in, key_in, pieces_in, is_updated}
use Rattle.ck_journal.specs.Operations.{message_in}
use Rattle.ck_journal.specs.Pins.{is_locked, is_pin, is_initialized, so_pin, user_pin, present_pin}
use Rattle.ck_journal.specs.Pins.{pin_owner, tries, is_user}
use Rattle.ck_journal.specs.Searches.{is_searching, found_objects, last_number, is_match_with}
use Rattle.ck_journal.specs.Searches.{matching_objects, remaining_objects, search_rest}
use Rattle.ck_journal.specs.Sessions.{numbers, openings, is_open, flags_of, open_sessions}
use Rattle.ck_journal.specs.Sessions.{has_rw_flag, is_read_write, rw_sessions, login, user_logins}
use Rattle.ck_journal.specs.Sessions.{state_of}
use Rattle.ck_journal.proofs.LegalLemmas.{session-open, later-passes, last-passes}

-- the same sessions are open, with the same flags; login, PINs, tries, counts and objects agree,
-- and so do the sessions of session objects
pub record Alike (h g : History) : Type 0 where
  pub initialized_too : is_initialized g ≡ is_initialized h
  pub so : so_pin g ≡ so_pin h
  pub user : user_pin g ≡ user_pin h
  pub tried : (u : UserType) → tries u g ≡ tries u h
  pub opened : openings g ≡ openings h
  pub created : creations g ≡ creations h
  pub logged_in : user_logins g ≡ user_logins h
  pub who : login g ≡ login h
  pub is_open_too : is_open g ≡ is_open h
  pub flags : (s : ℕ) → is_open h s ≡ true → flags_of g s ≡ flags_of h s
  pub objects : object_at g ≡ object_at h
  pub creator : (n : ℕ) (attributes : List Item) → object_at h n ≡ Some attributes
      → is_session_object attributes ≡ true → session_of g n ≡ session_of h n

-- the same searches and operations are active, and are at the same place
pub record AlikeActive (h g : History) : Type 0 where
  pub searching : is_searching g ≡ is_searching h
  pub found : (s : ℕ) → is_searching h s ≡ true → found_objects g s ≡ found_objects h s
  pub last : (s : ℕ) → is_searching h s ≡ true → last_number g s ≡ last_number h s
  pub active : (k : OperationKind) → is_active k g ≡ is_active k h
  pub computation : (k : OperationKind) (s : ℕ) → is_active k h s ≡ true
      → computation_in k g s ≡ computation_in k h s
  pub key : (k : OperationKind) (s : ℕ) → is_active k h s ≡ true → key_in k g s ≡ key_in k h s
  pub pieces : (k : OperationKind) (s : ℕ) → is_active k h s ≡ true
      → pieces_in k g s ≡ pieces_in k h s

-- ---- tests that agree where another passes

module _ (test p q : ℕ → Bool) (same : (k : ℕ) → test k ≡ true → p k ≡ q k) where
  filter_step : (t : Bool) (k : ℕ) (ks : List ℕ) → test k ≡ t
      → filter p (filter test ks) ≡ filter q (filter test ks)
      → filter p (cond t (k ∷ filter test ks) (filter test ks))
      ≡ filter q (cond t (k ∷ filter test ks) (filter test ks))
  filter_step true k ks e later = rw (same k e, later) refl
  filter_step false k ks e later = later

  filter-where : (ks : List ℕ) → filter p (filter test ks) ≡ filter q (filter test ks)
  filter-where [] = refl
  filter-where (k ∷ ks) = filter_step (test k) k ks refl (filter-where ks)

  any_step : (t : Bool) (k : ℕ) (ks : List ℕ) → test k ≡ t
      → list_any p (filter test ks) ≡ list_any q (filter test ks)
      → list_any p (cond t (k ∷ filter test ks) (filter test ks))
      ≡ list_any q (cond t (k ∷ filter test ks) (filter test ks))
  any_step true k ks e later = rw (same k e, later) refl
  any_step false k ks e later = later

  list_any-where : (ks : List ℕ) → list_any p (filter test ks) ≡ list_any q (filter test ks)
  list_any-where [] = refl
  list_any-where (k ∷ ks) = any_step (test k) k ks refl (list_any-where ks)

-- ---- checks after others that pass

after-check : (check : Option RvError) (a b : Option RvError) → (check ≡ None → a ≡ b)
    → or_else check a ≡ or_else check b
after-check None a b same = same refl
after-check (Some code) a b same = refl

allowed-after : (check : Option RvError) (a b : Reply) → (check ≡ None → a ≡ b)
    → unless check a ≡ unless check b
allowed-after None a b same = same refl
allowed-after (Some code) a b same = refl

-- ---- what is read off alike

module _ (h g : History) (a : Alike h g) where
  pub view-alike : view_of g ≡ view_of h
  view-alike =
      ap (λ u. record { is_user_in = is_user user.User u; logins = user_logins g }) a.who
      ∙ ap (λ n. record { is_user_in = is_user user.User (login h); logins = n }) a.logged_in

  pub open_sessions-alike : open_sessions g ≡ open_sessions h
  open_sessions-alike =
      ap (λ o. filter o (numbers (openings g))) a.is_open_too
      ∙ ap (λ n. filter (is_open h) (numbers n)) a.opened

  present_pin-alike : (u : UserType) → present_pin u g ≡ present_pin u h
  present_pin-alike user.So = a.so
  present_pin-alike user.User = a.user

  pub state-alike : (s : ℕ) → is_open h s ≡ true → state_of g s ≡ state_of h s
  state-alike s o = rw (a.who, a.flags s o) refl

  read_write-alike : (s : ℕ) → is_open h s ≡ true → is_read_write g s ≡ is_read_write h s
  read_write-alike s o = ap has_rw_flag (a.flags s o)

  pub number_named-alike : (handle : ℕ) → object_named g handle ≡ object_named h handle
  number_named-alike handle =
      ap (λ v. number_among v (object_at g) (creations g) handle) view-alike
      ∙ ap (λ o. number_among (view_of h) o (creations g) handle) a.objects
      ∙ ap (λ n. number_among (view_of h) (object_at h) n handle) a.created

  pub attributes_named-alike : attributes_named g ≡ attributes_named h
  attributes_named-alike =
      ap (λ v. attributes_among v (object_at g) (creations g)) view-alike
      ∙ ap (λ o. attributes_among (view_of h) o (creations g)) a.objects
      ∙ ap (λ n. attributes_among (view_of h) (object_at h) n) a.created

  named-alike : (handle : ℕ) → attributes_named g handle ≡ attributes_named h handle
  named-alike handle = ap (λ f. f handle) attributes_named-alike

  pub matching-alike : (template : List Item)
      → matching_objects g template ≡ matching_objects h template
  matching-alike template =
      ap (λ v. filter (λ n. is_some_with (is_match_with v template) (object_at g n))
      (numbers (creations g)))
      view-alike
      ∙ ap (λ o. filter (λ n. is_some_with (is_match_with (view_of h) template) (o n))
      (numbers (creations g)))
      a.objects
      ∙ ap (λ c. filter (λ n. is_some_with (is_match_with (view_of h) template) (object_at h n))
      (numbers c))
      a.created

  visible-alike : is_visible g ≡ is_visible h
  visible-alike =
      ap (λ v. λ n. is_some_with (is_visible_with v) (object_at g n)) view-alike
      ∙ ap (λ o. λ n. is_some_with (is_visible_with (view_of h)) (o n)) a.objects

  handles-alike : handle_of g ≡ handle_of h
  handles-alike =
      ap (λ v. λ n. option_map_or (λ attributes. handle_with v attributes n) (object_at g n) 0)
      view-alike
      ∙ ap (λ o. λ n. option_map_or (λ attributes. handle_with (view_of h) attributes n) (o n) 0)
      a.objects

  -- ---- checks

  session-alike : (s : ℕ) → session_error g s ≡ session_error h s
  session-alike s = ap (λ o. error_if (not (o s)) rv_error.SessionHandleInvalid) a.is_open_too

  pin_error-alike : (u : UserType) (pin : Pin) → pin_error u g pin ≡ pin_error u h pin
  pin_error-alike u pin = rw (a.tried u, present_pin-alike u) refl

  -- the session is looked at first
  in-session : (s : ℕ) (x y : Option RvError) → (is_open h s ≡ true → x ≡ y)
      → or_else (session_error g s) x ≡ or_else (session_error h s) y
  in-session s x y same =
      ap (λ e. or_else e x) (session-alike s)
      ∙ after-check (session_error h s) x y (λ passes. same (session-open h s passes))

  placement-alike : (s : ℕ) → is_open h s ≡ true → (p : Placement)
      → placement_error g s p ≡ placement_error h s p
  placement-alike s o p = rw (read_write-alike s o, a.who) refl

  creations-alike : (limits : Ranges) → creations_error limits g ≡ creations_error limits h
  creations-alike limits =
      ap (λ n. error_if (nat_le limits.creations n) rv_error.DeviceMemory) a.created

  read_only-alike : (u : UserType) → read_only_error u g ≡ read_only_error u h
  read_only-alike user.So =
      ap (λ xs. error_if (list_any (λ s. not (is_read_write g s)) xs)
      rv_error.SessionReadOnlyExists)
      open_sessions-alike
      ∙ ap (λ t. error_if t rv_error.SessionReadOnlyExists)
      (list_any-where (is_open h) (λ s. not (is_read_write g s)) (λ s. not (is_read_write h s))
      (λ s o. ap not (read_write-alike s o)) (numbers (openings h)))
  read_only-alike user.User = refl

  logins-alike : (limits : Ranges) (u : UserType)
      → logins_error limits u g ≡ logins_error limits u h
  logins-alike limits user.So = refl
  logins-alike limits user.User = rw a.logged_in refl

  user_login-alike : (limits : Ranges) (u : UserType) (pin : Pin)
      → user_login_error limits g u pin ≡ user_login_error limits h u pin
  user_login-alike limits u pin =
      rw (
        a.who,
        read_only-alike u,
        pin_error-alike u pin,
        present_pin-alike u,
        logins-alike limits u,
      ) refl

  known_login-alike : (limits : Ranges) (found : Option UserType) (pin : Pin)
      → known_login_error limits g found pin ≡ known_login_error limits h found pin
  known_login-alike limits None pin = refl
  known_login-alike limits (Some u) pin = user_login-alike limits u pin

  -- ---- checks of objects and keys

  key_named-alike : (handle : ℕ) → key_named g handle ≡ key_named h handle
  key_named-alike handle =
      ap (λ o. option_and_then (λ attributes. if is_key attributes then Some attributes else None)
      o)
      (named-alike handle)

  pub attributes_or_empty-alike : (handle : ℕ)
      → attributes_or_empty g handle ≡ attributes_or_empty h handle
  attributes_or_empty-alike handle = ap (λ o. unwrap_or o []) (named-alike handle)

  present_key-alike : (k : OperationKind) (n : Option ℕ)
      → present_key_error k g n ≡ present_key_error k h n
  present_key-alike k None = refl
  present_key-alike k (Some n) =
      ap (λ o. option_map_or (key_state_error k) (o n) (Some rv_error.KeyHandleInvalid)) a.objects

  -- ---- checks of operations

  module _ (b : AlikeActive h g) where
    operation-alike : (k : OperationKind) (s : ℕ) → operation_error k g s ≡ operation_error k h s
    operation-alike k s =
        ap (λ e. or_else e (or_else
        (error_if (not (is_active k g s)) rv_error.OperationNotInitialized) None))
        (session-alike s)
        ∙ ap (λ t. or_else (session_error h s)
        (or_else (error_if (not (t s)) rv_error.OperationNotInitialized)
        None)) (b.active k)

    operation-active : (k : OperationKind) (s : ℕ) → operation_error k h s ≡ None
        → is_active k h s ≡ true
    operation-active k s e =
        not-false (is_active k h s)
        (error_if-none (not (is_active k h s)) rv_error.OperationNotInitialized
        (last-passes _ (later-passes (session_error h s) _ e)))

    in-operation : (k : OperationKind) (s : ℕ) (x y : Option RvError)
        → (is_active k h s ≡ true → x ≡ y)
        → or_else (operation_error k g s) x ≡ or_else (operation_error k h s) y
    in-operation k s x y same =
        ap (λ e. or_else e x) (operation-alike k s)
        ∙ after-check (operation_error k h s) x y (λ passes. same (operation-active k s passes))

    search-alike : (s : ℕ) → search_error g s ≡ search_error h s
    search-alike s =
        ap (λ e. or_else e (or_else
        (error_if (not (is_searching g s)) rv_error.OperationNotInitialized) None))
        (session-alike s)
        ∙ ap (λ t. or_else (session_error h s)
        (or_else (error_if (not (t s)) rv_error.OperationNotInitialized)
        None)) b.searching

    search-active : (s : ℕ) → search_error h s ≡ None → is_searching h s ≡ true
    search-active s e =
        not-false (is_searching h s)
        (error_if-none (not (is_searching h s)) rv_error.OperationNotInitialized
        (last-passes _ (later-passes (session_error h s) _ e)))

    key-alike : (k : OperationKind) (s : ℕ) → is_active k h s ≡ true
        → present_key_error k g (key_in k g s) ≡ present_key_error k h (key_in k h s)
    key-alike k s t = ap (present_key_error k g) (b.key k s t) ∙ present_key-alike k (key_in k h s)

    updated-alike : (k : OperationKind) (s : ℕ) → is_active k h s ≡ true
        → is_updated k g s ≡ is_updated k h s
    updated-alike k s t = ap (λ pieces. not (length pieces == 0)) (b.pieces k s t)

    tag-alike : (k : OperationKind) (s : ℕ) → is_active k h s ≡ true → (message : List ℕ)
        → tag_in k g s message ≡ tag_in k h s message
    tag-alike k s t message =
        ap (λ found. option_map_or (λ c. tag_of c message) found []) (b.computation k s t)

    message_in-alike : (k : OperationKind) (s : ℕ) → is_active k h s ≡ true
        → message_in k g s ≡ message_in k h s
    message_in-alike k s t = ap concat (b.pieces k s t)

    whole_tag-alike : (k : OperationKind) (s : ℕ) → is_active k h s ≡ true
        → tag_in k g s (message_in k g s) ≡ tag_in k h s (message_in k h s)
    whole_tag-alike k s t =
        ap (tag_in k g s) (message_in-alike k s t) ∙ tag-alike k s t (message_in k h s)

    message_error-alike : (k : OperationKind) (s : ℕ) (bytes : List ℕ)
        → message_error k g s bytes ≡ message_error k h s bytes
    message_error-alike k s bytes =
        in-operation k s _ _ (λ t. rw (updated-alike k s t, key-alike k s t) refl)

    final_error-alike : (k : OperationKind) (s : ℕ) → final_error k g s ≡ final_error k h s
    final_error-alike k s = in-operation k s _ _ (λ t. rw (key-alike k s t) refl)

    update_error-alike : (k : OperationKind) (s : ℕ) (bytes : List ℕ)
        → update_error k g s bytes ≡ update_error k h s bytes
    update_error-alike k s bytes = in-operation k s _ _ (λ t. refl)

    message-active : (k : OperationKind) (s : ℕ) (bytes : List ℕ) → message_error k h s bytes ≡ None
        → is_active k h s ≡ true
    message-active k s bytes e = operation-active k s (or_else-none (operation_error k h s) _ e).0

    final-active : (k : OperationKind) (s : ℕ) → final_error k h s ≡ None → is_active k h s ≡ true
    final-active k s e = operation-active k s (or_else-none (operation_error k h s) _ e).0

    verify_error-alike : (s : ℕ) (bytes signature : List ℕ)
        → verify_error g s bytes signature ≡ verify_error h s bytes signature
    verify_error-alike s bytes signature =
        ap (λ e. or_else e (or_else
        (signature_error (tag_in kind.Verify g s bytes) signature) None))
        (message_error-alike kind.Verify s bytes)
        ∙ after-check (message_error kind.Verify h s bytes) _ _
        (λ e. rw (tag-alike kind.Verify s (message-active kind.Verify s bytes e) bytes) refl)

    verify_final-alike : (s : ℕ) (signature : List ℕ)
        → verify_final_error g s signature ≡ verify_final_error h s signature
    verify_final-alike s signature =
        ap (λ e. or_else e
        (or_else (signature_error (tag_in kind.Verify g s (message_in kind.Verify g s)) signature)
        None))
        (final_error-alike kind.Verify s)
        ∙ after-check (final_error kind.Verify h s) _ _
        (λ e. rw (whole_tag-alike kind.Verify s (final-active kind.Verify s e)) refl)

    hmac_init-alike : (k : OperationKind) (s : ℕ) (mechanism : Mechanism) (key : ℕ)
        → hmac_init_error k g s mechanism key ≡ hmac_init_error k h s mechanism key
    hmac_init-alike k s mechanism key =
        in-session s _ _ (λ o. rw (b.active k, key_named-alike key) refl)

    -- ---- checks of the object or the key that a handle names, where they are alike

    object_error-alike : (handle : ℕ) (late early : List Item → Option RvError)
        → ((attributes : List Item) → late attributes ≡ early attributes)
        → or_else (object_error g handle late) None ≡ or_else (object_error h handle early) None
    object_error-alike handle late early same =
        ap (λ found. or_else (option_map_or late found (Some rv_error.ObjectHandleInvalid)) None)
        (named-alike handle)
        ∙ ap (λ checks. or_else (object_error h handle checks) None) (fun_ext same)

    key_error-alike : (handle : ℕ) (late early : List Item → Option RvError)
        → ((attributes : List Item) → late attributes ≡ early attributes)
        → or_else (key_error g handle late) None ≡ or_else (key_error h handle early) None
    key_error-alike handle late early same =
        ap (λ found. or_else (option_map_or late found (Some rv_error.KeyHandleInvalid)) None)
        (key_named-alike handle)
        ∙ ap (λ checks. or_else (key_error h handle checks) None) (fun_ext same)

    -- ---- the error of a call

    call_error-alike : (limits : Ranges) (c : Call) → call_error limits g c ≡ call_error limits h c
    call_error-alike limits (call.InitToken pin) =
        rw (open_sessions-alike, a.initialized_too, pin_error-alike user.So pin) refl
    call_error-alike limits (call.InitPin session pin) =
        in-session session _ _ (λ o. rw (state-alike session o) refl)
    call_error-alike limits (call.SetPin session old new) =
        in-session session _ _
        (λ o. set_pin-later session old new (pin_owner (state_of h session))
        (read_write-alike session o)
        (ap pin_owner (state-alike session o)))
      where
        set_pin-later : (session : ℕ) (old new : Pin) (owner : UserType)
            → is_read_write g session ≡ is_read_write h session
            → pin_owner (state_of g session) ≡ owner
            → first_of (error_if (not (is_read_write g session)) rv_error.SessionReadOnly
            ∷ error_if (is_none (present_pin (pin_owner (state_of g session)) g))
            rv_error.UserPinNotInitialized
            ∷ error_if (is_locked (pin_owner (state_of g session)) g) rv_error.PinLocked
            ∷ error_if (not (fits_a_pin new)) rv_error.PinLenRange
            ∷ error_if (not (is_pin (present_pin (pin_owner (state_of g session)) g) old))
            rv_error.PinIncorrect
            ∷ [])
            ≡ first_of (error_if (not (is_read_write h session)) rv_error.SessionReadOnly
            ∷ error_if (is_none (present_pin owner h)) rv_error.UserPinNotInitialized
            ∷ error_if (is_locked owner h) rv_error.PinLocked
            ∷ error_if (not (fits_a_pin new)) rv_error.PinLenRange
            ∷ error_if (not (is_pin (present_pin owner h) old)) rv_error.PinIncorrect
            ∷ [])
        set_pin-later session old new owner w same =
            rw (same, w, present_pin-alike owner, a.tried owner) refl
    call_error-alike limits (call.OpenSession flags) =
        rw (open_sessions-alike, a.initialized_too, a.who, a.opened) refl
    call_error-alike limits (call.CloseSession session) = session-alike session
    call_error-alike limits call.CloseAllSessions = refl
    call_error-alike limits (call.Login session number pin) =
        in-session session _ _ (λ o. rw (known_login-alike limits (user_of number) pin) refl)
    call_error-alike limits (call.Logout session) =
        in-session session _ _ (λ o. rw a.who refl)
    call_error-alike limits (call.GetSessionInfo session) = session-alike session
    call_error-alike limits (call.SessionCancel session flags) = in-session session _ _ (λ o. refl)
    call_error-alike limits call.GetTokenInfo = refl
    call_error-alike limits call.GetMechanismList = refl
    call_error-alike limits (call.CreateObject session template) =
        in-session session _ _
        (λ o. rw (
          placement-alike session o (placement_of (created_items template.items)),
          creations-alike limits,
        ) refl)
    call_error-alike limits (call.GenerateKey session mechanism template random) =
        in-session session _ _
        (λ o. rw (
          placement-alike session o (placement_of (generated_items template.items random)),
          creations-alike limits,
        ) refl)
    call_error-alike limits (call.CopyObject session object template) =
        in-session session _ _
        (λ o. object_error-alike object (copy_error limits g session template.items)
        (copy_error limits h session template.items)
        (λ source. rw (a.flags session o, a.who, a.created) refl))
    call_error-alike limits (call.GetAttributeValue session object queries) =
        in-session session _ _ (λ o. rw (named-alike object) refl)
    call_error-alike limits (call.SetAttributeValue session object template) =
        in-session session _ _
        (λ o. object_error-alike object (change_error g session template.items)
        (change_error h session template.items) (λ attributes. rw (a.flags session o) refl))
    call_error-alike limits (call.SetKeyState session key number) =
        in-session session _ _
        (λ o. key_error-alike key (state_change_error g session number)
        (state_change_error h session number) (λ attributes. rw (a.flags session o) refl))
    call_error-alike limits (call.DestroyObject session object) =
        in-session session _ _
        (λ o. object_error-alike object (destruction_error g session)
        (destruction_error h session) (λ attributes. rw (a.flags session o) refl))
    call_error-alike limits (call.FindObjectsInit session template) =
        in-session session _ _ (λ o. rw b.searching refl)
    call_error-alike limits (call.FindObjects session max) = search-alike session
    call_error-alike limits (call.FindObjectsFinal session) = search-alike session
    call_error-alike limits (call.DigestInit session mechanism) =
        in-session session _ _ (λ o. rw (b.active kind.Digest) refl)
    call_error-alike limits (call.Digest session bytes room) =
        message_error-alike kind.Digest session bytes
    call_error-alike limits (call.DigestUpdate session bytes) =
        update_error-alike kind.Digest session bytes
    call_error-alike limits (call.DigestFinal session room) = final_error-alike kind.Digest session
    call_error-alike limits (call.SignInit session mechanism key) =
        hmac_init-alike kind.Sign session mechanism key
    call_error-alike limits (call.Sign session bytes room) =
        message_error-alike kind.Sign session bytes
    call_error-alike limits (call.SignUpdate session bytes) =
        update_error-alike kind.Sign session bytes
    call_error-alike limits (call.SignFinal session room) = final_error-alike kind.Sign session
    call_error-alike limits (call.VerifyInit session mechanism key) =
        hmac_init-alike kind.Verify session mechanism key
    call_error-alike limits (call.Verify session bytes signature) =
        verify_error-alike session bytes signature
    call_error-alike limits (call.VerifyUpdate session bytes) =
        update_error-alike kind.Verify session bytes
    call_error-alike limits (call.VerifyFinal session signature) =
        verify_final-alike session signature

    -- ---- the reply to a call that passes its checks

    search_rest-alike : (s : ℕ) → is_searching h s ≡ true → search_rest g s ≡ search_rest h s
    search_rest-alike s t =
        ap (λ p. filter p (remaining_objects g s)) visible-alike
        ∙ ap (λ n. filter (is_visible h) (filter (λ k. nat_lt n k) (found_objects g s)))
        (b.last s t)
        ∙ ap (λ ns. filter (is_visible h) (filter (λ k. nat_lt (last_number h s) k) ns))
        (b.found s t)

    rw_sessions-alike : rw_sessions g ≡ rw_sessions h
    rw_sessions-alike =
        ap (filter (is_read_write g)) open_sessions-alike
        ∙ filter-where (is_open h) (is_read_write g) (is_read_write h) read_write-alike
        (numbers (openings h))

    new_handle-alike : (attributes : List Item) → new_handle g attributes ≡ new_handle h attributes
    new_handle-alike attributes =
        ap (λ v. handle_with v attributes (suc (creations g))) view-alike
        ∙ ap (λ n. handle_with (view_of h) attributes (suc n)) a.created

    allowed-alike : (limits : Ranges) (c : Call) → call_error limits h c ≡ None
        → allowed_reply limits g c ≡ allowed_reply limits h c
    allowed-alike limits (call.OpenSession flags) e = rw a.opened refl
    allowed-alike limits (call.GetSessionInfo session) e =
        let o = session-open h session e in rw (state-alike session o, a.flags session o) refl
    allowed-alike limits call.GetTokenInfo e =
        rw (
          rw_sessions-alike,
          open_sessions-alike,
          a.initialized_too,
          a.user,
          a.tried user.User,
          a.tried user.So,
        ) refl
    allowed-alike limits (call.CreateObject session template) e =
        ap (λ n. ok (body.Handle n)) (new_handle-alike (created_items template.items))
    allowed-alike limits (call.GenerateKey session mechanism template random) e =
        ap (λ n. ok (body.Handle n)) (new_handle-alike (generated_items template.items random))
    allowed-alike limits (call.CopyObject session object template) e =
        ap (λ attributes. ok (body.Handle (new_handle g (with_given template.items attributes))))
        (attributes_or_empty-alike object)
        ∙ ap (λ n. ok (body.Handle n))
        (new_handle-alike (with_given template.items (attributes_or_empty h object)))
    allowed-alike limits (call.GetAttributeValue session object queries) e =
        rw (attributes_or_empty-alike object) refl
    allowed-alike limits (call.FindObjects session max) e =
        rw (search_rest-alike session (search-active session e), handles-alike) refl
    allowed-alike limits (call.Digest session bytes room) e =
        rw (tag-alike kind.Digest session (message-active kind.Digest session bytes e) bytes) refl
    allowed-alike limits (call.DigestFinal session room) e =
        rw (whole_tag-alike kind.Digest session (final-active kind.Digest session e)) refl
    allowed-alike limits (call.Sign session bytes room) e =
        rw (tag-alike kind.Sign session (message-active kind.Sign session bytes e) bytes) refl
    allowed-alike limits (call.SignFinal session room) e =
        rw (whole_tag-alike kind.Sign session (final-active kind.Sign session e)) refl
    allowed-alike limits other e = refl

    pub answer-alike : (limits : Ranges) (c : Call) → answer limits g c ≡ answer limits h c
    answer-alike limits c =
        ap (λ e. unless e (allowed_reply limits g c)) (call_error-alike limits c)
        ∙ allowed-after (call_error limits h c) (allowed_reply limits g c)
        (allowed_reply limits h c)
        (allowed-alike limits c)
