-- What searches find, and what the handles are of that entries return
use Rattle.std.proofs.Common.{◌≡◌, ℕ, zero, suc, ◌<◌, Bool, true, false, cond, not, ◌||◌}
use Rattle.std.proofs.Common.{List, [], ◌∷◌, Option, Some, None, All, AllPairs, length, refl, sym}
use Rattle.std.proofs.Common.{ap, ◌∙◌, subst, arith}
use Rattle.std.specs.Prelude.{◌==◌, Contains, map, min, nat_lt, option_map, take, unwrap_or}
use Rattle.std.specs.List.{AllZip, slice_get}
use Rattle.std.specs.Option.{option_map_or}
use Rattle.std.proofs.lemmas.Bool.{and_from, and_parts, false≢true, ltb-true}
use Rattle.std.proofs.lemmas.List.{length-map, length-take}
use Rattle.std.proofs.lemmas.List.Elements.{All-contains, All-contains_itself, All-filter}
use Rattle.std.proofs.lemmas.List.Elements.{All-head, All-tail, All-take, All-weaker}
use Rattle.std.proofs.lemmas.List.Elements.{filter_passes}
use Rattle.std.proofs.lemmas.List.Kept.{AllPairs-cons, AllPairs-filter}
use Rattle.std.proofs.lemmas.List.Sums.{AllPass-from_list_all}
use Rattle.ck_types.specs.Numbers.{same_bytes}
use Rattle.ck_objects.specs.Attributes.{type_of}
use Rattle.ck_objects.specs.Records.{has_item, is_revealable, is_set, matches, readable_value}
use Rattle.ck_objects.specs.Templates.{value_at}
use Rattle.ck_types.specs.TokenLimits.{Ranges}
use Rattle.ck_objects.specs.declared.attributes.Attribute.TheVariants as attribute
use Rattle.ck_objects.specs.declared.items.Item.{Item}
use Rattle.ck_journal.specs.declared.calls.Call.{Call}
use Rattle.ck_journal.specs.declared.calls.Call.TheVariants as call
use Rattle.ck_journal.specs.declared.calls.Entry.{Entry}
use Rattle.ck_journal.specs.declared.replies.Reply.{Reply}
use Rattle.ck_journal.specs.declared.views.View.{View}
use Rattle.ck_journal.specs.Answers.{new_handle}
use Rattle.ck_journal.specs.Effects.{effects_of}
use Rattle.ck_journal.specs.Histories.{History, start, ◌◁◌, done}
use Rattle.ck_journal.specs.KeyLaws.{HiddenValuesAreNotFound}
use Rattle.ck_journal.specs.Laws.{IsSoundHistory, searches, handle_made}
use Rattle.ck_journal.specs.Laws.{ReturnedHandlesNameObjects, SearchesReturnMatches}
use Rattle.ck_journal.specs.Objects.{creates, creations, creation_attributes, object_at}
use Rattle.ck_journal.specs.Objects.{object_named, attributes_named, view_of, is_user_in}
use Rattle.ck_journal.specs.Objects.{is_visible, is_visible_with, is_some_with, handle_with}
use Rattle.ck_journal.specs.Objects.{handle_of, names_with}
use Rattle.ck_journal.specs.Searches.{starts_search, is_match_with, matching_objects}
use Rattle.ck_journal.specs.Searches.{search_template, found_objects, handles_in, last_number}
use Rattle.ck_journal.specs.Searches.{remaining_objects, search_rest}
use Rattle.ck_journal.specs.Sessions.{numbers}
use Rattle.ck_journal.proofs.LaterLemmas.{just_before}
use Rattle.ck_journal.proofs.LegalLemmas.{allowed-done, by-done}
use Rattle.ck_journal.proofs.NameLemmas.{found-number, some_passes}
use Rattle.ck_journal.proofs.NumberTests.{same_number}
use Rattle.ck_journal.proofs.ObjectMoves.{object_at-created, object_at-left}
use Rattle.ck_journal.proofs.ReturnedHandleLemmas.{creation-body, creation-user, found-call}
use Rattle.ck_journal.proofs.ReturnedHandleLemmas.{found-visible, new-attributes, only-handle}
use Rattle.ck_journal.proofs.RisingLemmas.{AllPairs-numbers}
use Rattle.ck_journal.proofs.SearchMoves.{view_of-left}

-- ---- hidden values

-- no item of CKA_VALUE is had where the value may not be revealed
hidden-unlike : (attributes : List Item) (item : Item) → item.kind ≡ type_of attribute.Value
    → is_revealable attributes ≡ false → has_item attributes item ≡ true → ⊥
hidden-unlike attributes item of_value hidden has =
    let like = λ (o : Option (List ℕ)). unwrap_or (option_map (same_bytes item.value) o) false in
    let value = value_at attributes (type_of attribute.Value) in
    false≢true
    (ap (λ b. like (cond (not b) None value)) (sym hidden)
    ∙ ap (λ kind. like (readable_value attributes kind)) (sym of_value) ∙ has)

pub hidden-not_found : HiddenValuesAreNotFound
hidden-not_found limits e h good session n template item attributes made among of_value there hidden
    found =
    let view = view_of (e ◁ h) in
    let test = λ (k : ℕ). is_some_with (is_match_with view template.items) (object_at (e ◁ h) k) in
    let started : found_objects (e ◁ h) session ≡ matching_objects (e ◁ h) template.items =
    ap (λ d. cond (starts_search d session) (matching_objects (e ◁ h) (search_template d))
    (found_objects h session)) made
    ∙ ap (λ b. cond b (matching_objects (e ◁ h) template.items) (found_objects h session))
    (same_number session) in
    let passes : test n ≡ true =
    All-contains (λ k. test k ≡ true) (matching_objects (e ◁ h) template.items) n
    (filter_passes test (numbers (creations (e ◁ h))))
    (subst (λ ns. Contains ns n) started found) in
    let same : object_at (e ◁ h) n ≡ Some attributes =
    object_at-left e h (ap (λ d. (effects_of d).objects) made) n ∙ there in
    let matching = (and_parts (is_visible_with view attributes) (matches attributes template.items)
    (subst (λ o. is_some_with (is_match_with view template.items) o ≡ true) same passes)).1 in
    hidden-unlike attributes item of_value hidden
    (All-contains (λ i. has_item attributes i ≡ true) template.items item
    (AllPass-from_list_all (has_item attributes) template.items matching) among)

-- ---- visible objects are named by their handles

named-by : (h : History) (attributes : List Item) (handle n : ℕ)
    → is_visible_with (view_of h) attributes ≡ true
    → handle_with (view_of h) attributes n ≡ handle
    → names_with (view_of h) attributes handle n ≡ true
named-by h attributes handle n visible own =
    and_from (is_visible_with (view_of h) attributes)
    (handle_with (view_of h) attributes n == handle) visible
    (ap (λ k. k == handle) own ∙ same_number handle)

-- a visible object's handle names it
visible-named : (limits : Ranges) (h : History) → IsSoundHistory limits h → (n handle : ℕ)
    → is_visible h n ≡ true → handle_of h n ≡ handle → object_named h handle ≡ Some n
visible-named limits h good n handle visible own =
    let there = some_passes (is_visible_with (view_of h)) (object_at h n) visible in
    found-number limits good.in_range h good.sound good.legal handle n there.0 there.1
    (named-by h there.0 handle n there.2
    (subst (λ o. option_map_or (λ items. handle_with (view_of h) items n) o 0 ≡ handle) there.1
    own))

-- ---- a new object

creation-sessions : (d : Option Call) → creates d ≡ true → (effects_of d).sessions ≡ false
creation-sessions (Some (call.CreateObject session template)) t = refl
creation-sessions (Some (call.GenerateKey session mechanism template random)) t = refl
creation-sessions (Some (call.CopyObject session object template)) t = refl
creation-sessions other t = absurd (false≢true t)

seen-by_user : (private user_in : Bool) → (private ≡ true → user_in ≡ true)
    → (not private || user_in) ≡ true
seen-by_user true user_in seen = seen refl
seen-by_user false user_in seen = refl

module _ (limits : Ranges) (e : Entry) (h : History) (good : IsSoundHistory limits (e ◁ h)) where
  created-named : creates (done e) ≡ true → (place handle : ℕ)
      → slice_get (handle_made e.reply.body) place ≡ Some handle
      → (n : ℕ) × (object_named (e ◁ h) handle ≡ Some n)
  created-named t place handle returned =
      let attributes = new-attributes e h in
      let n = suc (creations h) in
      let own = only-handle e.reply.body (new_handle h attributes) place handle
      (creation-body e h limits good.legal t) returned in
      let user = by-done limits e h good.legal
      (λ d. creates d ≡ true
      → is_set (creation_attributes d (attributes_named h)) attribute.Private ≡ true
      → is_user_in h ≡ true) (λ t. cc) (creation-user limits h) t in
      let visible : is_visible_with (view_of h) attributes ≡ true =
      seen-by_user (is_set attributes attribute.Private) (is_user_in h) user in
      let named = named-by h attributes handle n visible own in
      let view = view_of-left e h (creation-sessions (done e) t) in (
        n,
        found-number limits good.in_range (e ◁ h) good.sound good.legal handle n attributes
            (object_at-created e h t)
            (subst (λ (v : View). names_with v attributes handle n ≡ true) (sym view) named),
      )

  -- ---- what a search returns

  search-named : searches (done e) ≡ true → (place handle : ℕ)
      → slice_get (handles_in e.reply.body) place ≡ Some handle
      → (n : ℕ) × (object_named (e ◁ h) handle ≡ Some n)
  search-named t place handle returned =
      let did = found-call (done e) t in
      let list = map (handle_of h) (take did.1 (search_rest h did.0)) in
      let listed : handles_in e.reply.body ≡ list =
      ap (λ (r : Reply). handles_in r.body)
      (allowed-done limits e h good.legal (call.FindObjects did.0 did.1) did.2) in
      let there = found-visible h did.0 did.1 place handle
      (subst (λ handles. slice_get handles place ≡ Some handle) listed returned) in
      let object = object_at-left e h (ap (λ d. (effects_of d).objects) did.2) there.0 in
      let view = view_of-left e h (ap (λ d. (effects_of d).sessions) did.2) in (
        there.0,
        visible-named limits (e ◁ h) good there.0 handle
            (ap (λ (v : View). is_some_with (is_visible_with v) (object_at (e ◁ h) there.0)) view
            ∙ ap (is_some_with (is_visible_with (view_of h))) object ∙ there.1)
            (ap (λ (v : View). option_map_or (λ items. handle_with v items there.0)
            (object_at (e ◁ h) there.0) 0) view
            ∙ ap (λ o. option_map_or (λ items. handle_with (view_of h) items there.0) o 0) object
            ∙ there.2),
      )

pub returned-named : ReturnedHandlesNameObjects
returned-named limits e h good place handle returned =
    cases (creates (done e)) (searches (done e)) refl refl returned
  where
    cases : (created found : Bool) → creates (done e) ≡ created → searches (done e) ≡ found
        → slice_get (cond created (handle_made e.reply.body)
        (cond found (handles_in e.reply.body) [])) place ≡ Some handle
        → (n : ℕ) × (object_named (e ◁ h) handle ≡ Some n)
    cases true found c f returned = created-named limits e h good c place handle returned
    cases false true c f returned = search-named limits e h good f place handle returned
    cases false false c f returned = cc

-- ---- the numbers of what a search returns

AllPairs-take : (R : ℕ → ℕ → Type 0) (count : ℕ) (ks : List ℕ) → AllPairs R ks
    → AllPairs R (take count ks)
AllPairs-take R zero ks pairs = λ i j d low within. absurd (omega arith)
AllPairs-take R (suc count) [] pairs = pairs
AllPairs-take R (suc count) (k ∷ ks) pairs =
    AllPairs-cons R k (take count ks)
    (All-take (R k) count ks (λ j d within. pairs 0 (suc j) d (omega arith) (omega arith)))
    (AllPairs-take R count ks
    (λ i j d low within. pairs (suc i) (suc j) d (omega arith) (omega arith)))

found-step : (started : Bool) (fresh before : List ℕ) → AllPairs (λ n m. n < m) fresh
    → AllPairs (λ n m. n < m) before → AllPairs (λ n m. n < m) (cond started fresh before)
found-step true fresh before f b = f
found-step false fresh before f b = b

-- each number that a search found is below all later ones
found_objects-above : (h : History) (s : ℕ) → AllPairs (λ n m. n < m) (found_objects h s)
found_objects-above (start b) s = λ i j d low within. absurd (omega arith)
found_objects-above (e ◁ h) s =
    found-step (starts_search (done e) s) (matching_objects (e ◁ h) (search_template (done e)))
    (found_objects h s)
    (AllPairs-filter (λ n m. n < m) _ (numbers (creations (e ◁ h)))
    (AllPairs-numbers (creations (e ◁ h))))
    (found_objects-above h s)

zip-map : (R : ℕ → ℕ → Type 0) (f : ℕ → ℕ) (ks : List ℕ) → All (λ k. R (f k) k) ks
    → AllZip R (map f ks) ks
zip-map R f [] all = tt
zip-map R f (k ∷ ks) all =
    (All-head (λ j. R (f j) j) k ks all, zip-map R f ks (All-tail (λ j. R (f j) j) k ks all))

pub searches-return : SearchesReturnMatches
searches-return limits e h good session max handles did body =
    let reply = allowed-done limits e h good.legal (call.FindObjects session max) did in
    let found = found_objects h session in
    let left = remaining_objects h session in
    let rest = search_rest h session in
    let ks = take max rest in
    let after = λ (k : ℕ). nat_lt (last_number h session) k in
    let before = just_before limits e h good in
    let same : map (handle_of h) ks ≡ handles =
    ap (λ (r : Reply). handles_in r.body) (sym reply) ∙ ap handles_in body in
    let many : length handles ≡ length ks =
    ap length (sym same) ∙ length-map ks (handle_of h) in
    let few : length ks ≡ min max (length rest) = length-take max rest in
    record {
      numbers = ks;
      named =
          subst (λ list. AllZip (λ handle n. object_named h handle ≡ Some n) list ks) same
          (zip-map (λ handle n. object_named h handle ≡ Some n) (handle_of h) ks
          (All-weaker (λ k. is_visible h k ≡ true) (λ k. object_named h (handle_of h k) ≡ Some k)
          (λ k visible. visible-named limits h before k (handle_of h k) visible refl) ks
          (All-take (λ k. is_visible h k ≡ true) max rest (filter_passes (is_visible h) left))));
      found =
          All-take (Contains found) max rest
          (All-filter (is_visible h) (Contains found) left
          (All-filter after (Contains found) found (All-contains_itself found)));
      fresh =
          All-take (λ k. last_number h session < k) max rest
          (All-filter (is_visible h) (λ k. last_number h session < k) left
          (All-weaker (λ k. after k ≡ true) (λ k. last_number h session < k)
          (λ k t. ltb-true (last_number h session) k t) left (filter_passes after found)));
      rising =
          AllPairs-take (λ n m. n < m) max rest
          (AllPairs-filter (λ n m. n < m) (is_visible h) left
          (AllPairs-filter (λ n m. n < m) after found (found_objects-above h session)));
      most = omega (arith, many, few);
    }
