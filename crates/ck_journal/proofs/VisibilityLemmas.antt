-- Who sees private objects
use Rattle.std.proofs.Common.{◌≡◌, ℕ, Bool, true, false, not, ◌||◌}
use Rattle.std.proofs.Common.{List, Option, Some, None, refl, sym, ap, ◌∙◌, subst}
use Rattle.std.specs.Prelude.{◌==◌}
use Rattle.std.proofs.lemmas.Bool.{and_parts}
use Rattle.std.proofs.lemmas.Option.{none-some, same_Some}
use Rattle.ck_objects.specs.Records.{is_set}
use Rattle.ck_types.specs.TokenLimits.{Ranges}
use Rattle.ck_objects.specs.declared.attributes.Attribute.TheVariants as attribute
use Rattle.ck_types.specs.declared.errors.RvError.{RvError}
use Rattle.ck_types.specs.declared.errors.RvError.TheVariants as rv_error
use Rattle.ck_objects.specs.declared.items.Item.{Item}
use Rattle.ck_types.specs.declared.users.UserType.TheVariants as user
use Rattle.ck_journal.specs.declared.calls.Call.{Call}
use Rattle.ck_journal.specs.declared.calls.Call.TheVariants as call
use Rattle.ck_journal.specs.declared.operations.OperationKind.TheVariants as kind
use Rattle.ck_journal.specs.declared.replies.Answer.{Answer}
use Rattle.ck_journal.specs.declared.replies.Body.TheVariants as body
use Rattle.ck_journal.specs.declared.replies.Reply.{Reply}
use Rattle.ck_journal.specs.Answers.{answer, unless, call_error, get_attribute_value_error}
use Rattle.ck_journal.specs.Answers.{session_error, object_error, key_error}
use Rattle.ck_journal.specs.Histories.{History}
use Rattle.ck_journal.specs.Laws.{IsPrivate, named_handle}
use Rattle.ck_journal.specs.Laws.{PrivateObjectsAreVisibleToTheUser}
use Rattle.ck_journal.specs.Laws.{PrivateObjectsAreNamedByTheUser}
use Rattle.ck_journal.specs.Laws.{PrivateAttributesAreGivenToTheUser}
use Rattle.ck_journal.specs.Objects.{object_at, object_named}
use Rattle.ck_journal.specs.Objects.{attributes_named, view_of, is_user_in}
use Rattle.ck_journal.specs.Objects.{is_visible_with, handle_with}
use Rattle.ck_journal.specs.Objects.{is_some_with}
use Rattle.ck_journal.specs.Sessions.{login}
use Rattle.ck_journal.proofs.KeyUseLemmas.{key-named, init-named}
use Rattle.ck_journal.proofs.LegalLemmas.{by-done, later-passes, last-passes}
use Rattle.ck_journal.proofs.LegalLemmas.{object-found, is_user-some}
use Rattle.ck_journal.proofs.NameLemmas.{found-object, named-passes}

-- ---- visible objects

seen-by : (private seen : Bool) → (not private || seen) ≡ true → private ≡ true → seen ≡ true
seen-by true seen v p = v
seen-by false seen v p = cc

-- where private attributes are visible the normal user is logged in
pub visible-login : (h : History) (attributes : List Item)
    → is_visible_with (view_of h) attributes ≡ true → is_set attributes attribute.Private ≡ true
    → login h ≡ Some user.User
visible-login h attributes visible private =
    is_user-some user.User (login h)
    (seen-by (is_set attributes attribute.Private) (is_user_in h) visible private)

pub private-visible : PrivateObjectsAreVisibleToTheUser
private-visible limits h good n private visible =
    visible-login h private.attributes
    (subst (λ o. is_some_with (is_visible_with (view_of h)) o ≡ true) private.present visible)
    private.private

-- ---- objects that calls name

-- an object that a handle names is visible
pub named-login : (h : History) (handle n : ℕ) → object_named h handle ≡ Some n → IsPrivate h n
    → login h ≡ Some user.User
named-login h handle n named private =
    let there = named-passes h handle n named in
    let same : there.0 ≡ private.attributes =
    same_Some there.0 private.attributes (sym there.1 ∙ private.present) in
    visible-login h there.0
    (and_parts (is_visible_with (view_of h) there.0) (handle_with (view_of h) there.0 n == handle)
    there.2).0
    (subst (λ items. is_set items attribute.Private ≡ true) (sym same) private.private)

names-object : (h : History) (handle : ℕ) (attributes : List Item)
    → attributes_named h handle ≡ Some attributes → (n : ℕ) × (object_named h handle ≡ Some n)
names-object h handle attributes e =
    let found = found-object (object_at h) (object_named h handle) attributes e in
    (found.0, found.1)

by-object : (h : History) (session object : ℕ) (checks : List Item → Option RvError)
    → object_error h object checks ≡ None → (n : ℕ) × (object_named h object ≡ Some n)
by-object h session object checks p =
    let found = object-found (attributes_named h object) checks rv_error.ObjectHandleInvalid p in
    names-object h object found.0 found.1

call-names : (limits : Ranges) (h : History) (c : Call) → call_error limits h c ≡ None
    → (handle : ℕ) → named_handle (Some c) ≡ Some handle
    → (n : ℕ) × (object_named h handle ≡ Some n)
call-names limits h (call.CopyObject session object template) p handle e =
    subst (λ k. (n : ℕ) × (object_named h k ≡ Some n)) (same_Some object handle e)
    (by-object h session object _
    (last-passes (object_error h object _) (later-passes (session_error h session) _ p)))
call-names limits h (call.GetAttributeValue session object queries) p handle e =
    subst (λ k. (n : ℕ) × (object_named h k ≡ Some n)) (same_Some object handle e)
    (by-object h session object _
    (last-passes (object_error h object _) (later-passes (session_error h session) _ p)))
call-names limits h (call.SetAttributeValue session object template) p handle e =
    subst (λ k. (n : ℕ) × (object_named h k ≡ Some n)) (same_Some object handle e)
    (by-object h session object _
    (last-passes (object_error h object _) (later-passes (session_error h session) _ p)))
call-names limits h (call.DestroyObject session object) p handle e =
    subst (λ k. (n : ℕ) × (object_named h k ≡ Some n)) (same_Some object handle e)
    (by-object h session object _
    (last-passes (object_error h object _) (later-passes (session_error h session) _ p)))
call-names limits h (call.SetKeyState session key state) p handle e =
    let named = key-named (attributes_named h key) _
    (last-passes (key_error h key _) (later-passes (session_error h session) _ p)) in
    subst (λ k. (n : ℕ) × (object_named h k ≡ Some n)) (same_Some key handle e)
    (names-object h key named.0 named.1)
call-names limits h (call.SignInit session mechanism key) p handle e =
    subst (λ k. (n : ℕ) × (object_named h k ≡ Some n)) (same_Some key handle e)
    (init-named kind.Sign h session mechanism key p)
call-names limits h (call.VerifyInit session mechanism key) p handle e =
    subst (λ k. (n : ℕ) × (object_named h k ≡ Some n)) (same_Some key handle e)
    (init-named kind.Verify h session mechanism key p)
call-names limits h other _ handle e = absurd (none-some handle e)

pub private-named : PrivateObjectsAreNamedByTheUser
private-named limits e h good handle names =
    let named = by-done limits e h good.legal
    (λ d. named_handle d ≡ Some handle → (n : ℕ) × (object_named h handle ≡ Some n))
    (λ t. cc) (λ c p. call-names limits h c p handle) names in
    record {
      number = named.0;
      named = named.1;
      login = named-login h handle named.0 named.1;
    }

-- a refused call gives no attributes
given-unrefused : (error : Option RvError) (reply : Reply) (answers : List Answer)
    → (unless error reply).body ≡ body.Attributes answers → error ≡ None
given-unrefused None reply answers e = refl
given-unrefused (Some code) reply answers e = cc

pub private-attributes : PrivateAttributesAreGivenToTheUser
private-attributes limits e h good handle gives =
    let reply = good.legal.0 ∙ ap (answer limits h) gives.asks in
    let passes = given-unrefused (get_attribute_value_error h gives.session handle) _ gives.answers
    (sym (ap (λ (r : Reply). r.body) reply) ∙ gives.returns) in
    let named = call-names limits h (call.GetAttributeValue gives.session handle gives.queries)
    passes handle refl in
    record {
      number = named.0;
      named = named.1;
      login = named-login h handle named.0 named.1;
    }
