-- Two histories that agree on all that is open, there and active still do after one more entry
use Rattle.std.proofs.Common.{◌≡◌, ℕ, suc, Bool, true, false, cond, not, ◌&&◌, ◌||◌, List, [], ◌++◌}
use Rattle.std.proofs.Common.{Option, Some, None, length, refl, sym, ap, ◌∙◌, subst}
use Rattle.std.specs.Prelude.{◌==◌, filter, map, option_and_then}
use Rattle.std.proofs.Math.Path.{fun_ext}
use Rattle.std.proofs.lemmas.Option.{option_and_then_some}
use Rattle.ck_types.specs.Checks.{error_if, or_else}
use Rattle.ck_objects.specs.Records.{key_value}
use Rattle.ck_types.specs.TokenLimits.{Ranges}
use Rattle.ck_types.specs.declared.errors.RvError.{RvError}
use Rattle.ck_types.specs.declared.errors.RvError.TheVariants as rv_error
use Rattle.ck_objects.specs.declared.items.Item.{Item}
use Rattle.ck_types.specs.declared.users.UserType.{UserType}
use Rattle.ck_types.specs.declared.users.UserType.TheVariants as user
use Rattle.ck_types.proofs.CheckLemmas.{or_else-none}
use Rattle.ck_journal.specs.declared.calls.Call.{Call}
use Rattle.ck_journal.specs.declared.calls.Call.TheVariants as call
use Rattle.ck_journal.specs.declared.calls.Entry.{Entry}
use Rattle.ck_journal.specs.declared.replies.Reply.{Reply}
use Rattle.ck_journal.specs.declared.views.View.{View}
use Rattle.ck_journal.specs.Answers.{call_error, IsLegal, session_error}
use Rattle.ck_journal.specs.Bases.{IsSound}
use Rattle.ck_journal.specs.Histories.{History, ◌◁◌, start_of, done, wrong_try, is_wrong_pin}
use Rattle.ck_journal.specs.Objects.{creates, creations, creation_session, session_of}
use Rattle.ck_journal.specs.Objects.{creation_attributes, object_after, object_at, view_of}
use Rattle.ck_journal.specs.Objects.{attributes_named, object_named, is_session_object}
use Rattle.ck_journal.specs.Operations.{starts, ends, is_active, started_computation}
use Rattle.ck_journal.specs.Operations.{computation_in, hmac_with, init_key, key_in, piece_of}
use Rattle.ck_journal.specs.Operations.{pieces_in}
use Rattle.ck_journal.specs.Pins.{about, is_about, is_user, initializes, so_pin, so_pin_after}
use Rattle.ck_journal.specs.Pins.{user_pin, user_pin_after, pin_owner, tries}
use Rattle.ck_journal.specs.Searches.{starts_search, ends_search, is_searching, matching_objects}
use Rattle.ck_journal.specs.Searches.{search_template, found_objects, last_or, last_number}
use Rattle.ck_journal.specs.Searches.{number_of_handle, returned_handles}
use Rattle.ck_journal.specs.Sessions.{numbers, opens, openings, closes, is_open, opening_flags}
use Rattle.ck_journal.specs.Sessions.{flags_of, open_sessions, login, login_after, logs_user_in}
use Rattle.ck_journal.proofs.CutReadings.{Alike, AlikeActive, view-alike, state-alike}
use Rattle.ck_journal.proofs.CutReadings.{attributes_named-alike, attributes_or_empty-alike}
use Rattle.ck_journal.proofs.CutReadings.{number_named-alike, matching-alike}
use Rattle.ck_journal.proofs.LegalLemmas.{by-done, session-open, wrong_answer, token_stays}

-- ---- what an entry starts, or leaves as it was

started-alike : {X : Type 0} (started ended active : Bool) (fresh fresh' before before' : X)
    → fresh' ≡ fresh → (active ≡ true → before' ≡ before)
    → cond started true (cond ended false active) ≡ true
    → cond started fresh' before' ≡ cond started fresh before
started-alike true ended active fresh fresh' before before' same left t = same
started-alike false true active fresh fresh' before before' same left t = cc
started-alike false false active fresh fresh' before before' same left t = left t

-- a call that finds a PIN wrong names an open session
open-wrong : (o : Bool) (later : Option RvError)
    → or_else (error_if (not o) rv_error.SessionHandleInvalid) later ≡ Some rv_error.PinIncorrect
    → o ≡ true
open-wrong true later e = refl
open-wrong false later e = cc

-- a token object doesn't end with a session
unsessioned : (d : Option Call) (view : View) (n creator other : ℕ) (attributes : List Item)
    → is_session_object attributes ≡ false
    → object_after d view n other attributes ≡ object_after d view n creator attributes
unsessioned (Some (call.CloseSession session)) view n creator other attributes t = rw t refl
unsessioned d view n creator other attributes t = refl

module _ (h g : History) (a : Alike h g) where
  -- ---- whose PIN a call is about

  about-passed : (limits : Ranges) (c : Call) → call_error limits h c ≡ None
      → about g (Some c) ≡ about h (Some c)
  about-passed limits (call.SetPin session old new) p =
      let o = session-open h session (or_else-none (session_error h session) _ p).0 in
      ap (λ s. Some (pin_owner s)) (state-alike h g a session o)
  about-passed limits other p = refl

  about-tried : (limits : Ranges) (c : Call) → call_error limits h c ≡ Some rv_error.PinIncorrect
      → about g (Some c) ≡ about h (Some c)
  about-tried limits (call.SetPin session old new) p =
      ap (λ s. Some (pin_owner s)) (state-alike h g a session (open-wrong (is_open h session) _ p))
  about-tried limits other p = refl

  -- ---- what a call starts to compute

  computation-alike : (d : Option Call) → started_computation g d ≡ started_computation h d
  computation-alike (Some (call.SignInit session mechanism key)) =
      ap (λ items. hmac_with mechanism (key_value items)) (attributes_or_empty-alike h g a key)
  computation-alike (Some (call.VerifyInit session mechanism key)) =
      ap (λ items. hmac_with mechanism (key_value items)) (attributes_or_empty-alike h g a key)
  computation-alike other = refl

  ends-alike : (d : Option Call) (n : ℕ) (o : Option (List Item)) → object_at h n ≡ o
      → option_and_then (object_after d (view_of h) n (session_of g n)) o
      ≡ option_and_then (object_after d (view_of h) n (session_of h n)) o
  ends-alike d n None is = refl
  ends-alike d n (Some x) is = cases (is_session_object x) refl
    where
      cases : (t : Bool) → is_session_object x ≡ t
          → object_after d (view_of h) n (session_of g n) x
          ≡ object_after d (view_of h) n (session_of h n) x
      cases true t = ap (λ c. object_after d (view_of h) n c x) (a.creator n x is t)
      cases false t = unsessioned d (view_of h) n (session_of h n) (session_of g n) x t

  module _ (limits : Ranges) (e : Entry) (sound : IsSound (start_of h))
      (legal : IsLegal limits (e ◁ h)) where
    about-done : about g (done e) ≡ about h (done e)
    about-done = by-done limits e h legal (λ d. about g d ≡ about h d) refl (about-passed limits)

    about-wrong : about g (wrong_try e) ≡ about h (wrong_try e)
    about-wrong = cases (is_wrong_pin e.reply.rv) refl
      where
        cases : (t : Bool) → is_wrong_pin e.reply.rv ≡ t
            → about g (cond t (Some e.call) None) ≡ about h (cond t (Some e.call) None)
        cases true t =
            about-tried limits e.call
            (wrong_answer limits h e.call
            (subst (λ (reply : Reply). is_wrong_pin reply.rv ≡ true) legal.0 t))
        cases false t = refl

    opened-after : openings (e ◁ g) ≡ openings (e ◁ h)
    opened-after = ap (λ n. cond (opens (done e)) (suc n) n) a.opened

    open-after : is_open (e ◁ g) ≡ is_open (e ◁ h)
    open-after =
        fun_ext (λ s.
        ap (λ n. cond (opens (done e) && s == suc n) true
        (cond (closes (done e) s) false (is_open g s)))
        a.opened
        ∙ ap (λ o. cond (opens (done e) && s == suc (openings h)) true
        (cond (closes (done e) s) false (o s)))
        a.is_open_too)

    sessions-after : open_sessions (e ◁ g) ≡ open_sessions (e ◁ h)
    sessions-after =
        ap (λ o. filter o (numbers (openings (e ◁ g)))) open-after
        ∙ ap (λ n. filter (is_open (e ◁ h)) (numbers n)) opened-after

    login-after : login (e ◁ g) ≡ login (e ◁ h)
    login-after =
        ap (λ ss. cond (length ss == 0) None (login_after (done e) (login g))) sessions-after
        ∙ ap (λ l. cond (length (open_sessions (e ◁ h)) == 0) None (login_after (done e) l)) a.who

    tried-after : (u : UserType) → tries u (e ◁ g) ≡ tries u (e ◁ h)
    tried-after u =
        ap (λ o. cond (is_user u o || initializes (done e)) 0
        (cond (is_user u (about g (wrong_try e))) (suc (tries u g)) (tries u g))) about-done
        ∙ ap (λ o. cond (is_user u (about h (done e)) || initializes (done e)) 0
        (cond (is_user u o) (suc (tries u g)) (tries u g))) about-wrong
        ∙ ap (λ n. cond (is_user u (about h (done e)) || initializes (done e)) 0
        (cond (is_user u (about h (wrong_try e))) (suc n) n)) (a.tried u)

    objects-after : object_at (e ◁ g) ≡ object_at (e ◁ h)
    objects-after =
        fun_ext (λ n.
        ap (λ c. cond (creates (done e) && n == suc c)
        (Some (creation_attributes (done e) (attributes_named g)))
        (option_and_then (object_after (done e) (view_of g) n (session_of g n)) (object_at g n)))
        a.created
        ∙ ap (λ f. cond (creates (done e) && n == suc (creations h))
        (Some (creation_attributes (done e) f))
        (option_and_then (object_after (done e) (view_of g) n (session_of g n)) (object_at g n)))
        (attributes_named-alike h g a)
        ∙ ap (λ o. cond (creates (done e) && n == suc (creations h))
        (Some (creation_attributes (done e) (attributes_named h))) o)
        (ap (λ v. option_and_then (object_after (done e) v n (session_of g n)) (object_at g n))
        (view-alike h g a)
        ∙ ap (λ f. option_and_then (object_after (done e) (view_of h) n (session_of g n)) (f n))
        a.objects
        ∙ ends-alike (done e) n (object_at h n) refl))

    creator-after : (n : ℕ) (b : List Item) → object_at (e ◁ h) n ≡ Some b
        → is_session_object b ≡ true → session_of (e ◁ g) n ≡ session_of (e ◁ h) n
    creator-after n b now t =
        ap (λ c. cond (creates (done e) && n == suc c) (creation_session (done e)) (session_of g n))
        a.created
        ∙ cases (creates (done e) && n == suc (creations h)) refl
      where
        cases : (fresh : Bool) → (creates (done e) && n == suc (creations h)) ≡ fresh
            → cond fresh (creation_session (done e)) (session_of g n)
            ≡ cond fresh (creation_session (done e)) (session_of h n)
        cases true f = refl
        cases false f =
            let was : (x : List Item) × (object_at h n ≡ Some x) =
            option_and_then_some (object_after (done e) (view_of h) n (session_of h n))
            (object_at h n) b
            (subst (λ t. cond t (Some (creation_attributes (done e) (attributes_named h)))
            (option_and_then (object_after (done e) (view_of h) n (session_of h n)) (object_at h n))
            ≡ Some b)
            f now) (λ x there after. (x, there)) in
            a.creator n was.0 was.1
            (sym (ap not (token_stays limits e h sound legal n was.0 b was.1 now)) ∙ t)

    pub alike-after : Alike (e ◁ h) (e ◁ g)
    alike-after = record {
      initialized_too = ap (λ t. initializes (done e) || t) a.initialized_too;
      so = ap (λ who. so_pin_after (done e) (is_user user.So who) (so_pin g)) about-done
          ∙ ap (so_pin_after (done e) (is_about user.So h (done e))) a.so;
      user = ap (λ who. user_pin_after (done e) (is_user user.User who) (user_pin g)) about-done
          ∙ ap (user_pin_after (done e) (is_about user.User h (done e))) a.user;
      tried = tried-after;
      opened = opened-after;
      created = ap (λ n. cond (creates (done e)) (suc n) n) a.created;
      logged_in = ap (λ n. cond (logs_user_in (done e)) (suc n) n) a.logged_in;
      who = login-after;
      is_open_too = open-after;
      flags = λ s o.
          ap (λ n. cond (opens (done e) && s == suc n) (opening_flags (done e)) (flags_of g s))
          a.opened
          ∙ started-alike (opens (done e) && s == suc (openings h)) (closes (done e) s)
          (is_open h s)
          (opening_flags (done e)) (opening_flags (done e)) (flags_of h s) (flags_of g s) refl
          (a.flags s) o;
      objects = objects-after;
      creator = creator-after;
    }

    module _ (b : AlikeActive h g) where
      pub alike_active-after : AlikeActive (e ◁ h) (e ◁ g)
      alike_active-after = record {
        searching = fun_ext (λ s.
            ap (λ t. cond (starts_search (done e) s) true
            (cond (ends_search (done e) s) false (t s))) b.searching);
        found = λ s t.
            started-alike (starts_search (done e) s) (ends_search (done e) s) (is_searching h s)
            (matching_objects (e ◁ h) (search_template (done e)))
            (matching_objects (e ◁ g) (search_template (done e)))
            (found_objects h s) (found_objects g s)
            (matching-alike (e ◁ h) (e ◁ g) alike-after (search_template (done e))) (b.found s) t;
        last = λ s t.
            started-alike (starts_search (done e) s) (ends_search (done e) s) (is_searching h s) 0 0
            (last_or (last_number h s) (map number_of_handle (returned_handles e s)))
            (last_or (last_number g s) (map number_of_handle (returned_handles e s))) refl
            (λ w. ap (λ n. last_or n (map number_of_handle (returned_handles e s))) (b.last s w)) t;
        active = λ k. fun_ext (λ s.
            ap (λ t. cond (starts (done e) k s) true (cond (ends k e s) false (t s))) (b.active k));
        computation = λ k s t.
            started-alike (starts (done e) k s) (ends k e s) (is_active k h s)
            (started_computation h (done e)) (started_computation g (done e))
            (computation_in k h s) (computation_in k g s)
            (computation-alike (done e)) (b.computation k s) t;
        key = λ k s t.
            started-alike (starts (done e) k s) (ends k e s) (is_active k h s)
            (option_and_then (object_named h) (init_key (done e)))
            (option_and_then (object_named g) (init_key (done e))) (key_in k h s) (key_in k g s)
            (ap (λ f. option_and_then f (init_key (done e))) (fun_ext (number_named-alike h g a)))
            (b.key k s) t;
        pieces = λ k s t.
            started-alike (starts (done e) k s) (ends k e s) (is_active k h s) [] []
            (pieces_in k h s ++ piece_of (done e) k s)
            (pieces_in k g s ++ piece_of (done e) k s) refl
            (λ w. ap (λ xs. xs ++ piece_of (done e) k s) (b.pieces k s w)) t;
      }
