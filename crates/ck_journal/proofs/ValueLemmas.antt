-- What the replies to C_GetAttributeValue give
use Rattle.std.proofs.Common.{◌≡◌, ℕ, Bool, true, false, cond, not, List, Option, Some, None}
use Rattle.std.proofs.Common.{[], length, refl, sym, ap, ◌∙◌}
use Rattle.std.specs.Prelude.{map, nat_lt, option_map}
use Rattle.std.specs.List.{slice_get}
use Rattle.std.proofs.lemmas.Option.{slice_get-map}
use Rattle.ck_objects.specs.Attributes.{type_of}
use Rattle.ck_objects.specs.Records.{is_revealable, readable_value}
use Rattle.ck_objects.specs.Templates.{value_at}
use Rattle.ck_objects.specs.declared.attributes.Attribute.TheVariants as attribute
use Rattle.ck_types.specs.declared.errors.RvError.{RvError}
use Rattle.ck_types.specs.declared.errors.RvError.TheVariants as rv_error
use Rattle.ck_objects.specs.declared.items.Item.{Item}
use Rattle.ck_journal.specs.declared.calls.AttributeQuery.{AttributeQuery}
use Rattle.ck_journal.specs.declared.replies.Answer.{Answer}
use Rattle.ck_journal.specs.declared.replies.Answer.TheVariants as answer
use Rattle.ck_journal.specs.declared.replies.Body.TheVariants as body
use Rattle.ck_journal.specs.declared.replies.Reply.{Reply}
use Rattle.ck_journal.specs.Answers.{answer, unless, get_attribute_value_error, object_error}
use Rattle.ck_journal.specs.Answers.{session_error}
use Rattle.ck_journal.specs.KeyLaws.{HiddenValuesAreNotGiven}
use Rattle.ck_journal.specs.Objects.{attributes_named, attributes_or_empty}
use Rattle.ck_journal.specs.Queries.{value_answer, query_answer, queries_reply}
use Rattle.ck_journal.proofs.LegalLemmas.{object-found, last-passes, later-passes}
use Rattle.std.specs.Prelude.{unwrap_or}

-- a refused call gives no answers
unrefused : (error : Option RvError) (attributes : List Item) (queries : List AttributeQuery)
    (answers : List Answer)
    → (unless error (queries_reply attributes queries)).body ≡ body.Attributes answers
    → (error ≡ None) × (answers ≡ map (query_answer attributes) queries)
unrefused None attributes queries answers e = (refl, cc)
unrefused (Some code) attributes queries answers e = cc

read-value : (value : Option (List ℕ)) (room : Option ℕ) (bytes : List ℕ)
    → value_answer value room ≡ answer.Value bytes → value ≡ Some bytes
read-value None room bytes e = cc
read-value (Some value) None bytes e = cc
read-value (Some value) (Some room) bytes e = cases (nat_lt room (length value)) e
  where
    cases : (longer : Bool) → cond longer answer.Unavailable (answer.Value value)
        ≡ answer.Value bytes
        → Some value ≡ Some bytes
    cases true e = cc
    cases false e = cc

revealed : (revealable : Bool) (value : Option (List ℕ)) (bytes : List ℕ)
    → cond (not revealable) None value ≡ Some bytes
    → (revealable ≡ true) × (value ≡ Some bytes)
revealed true value bytes e = (refl, e)
revealed false value bytes e = cc

value-revealable : (attributes : List Item) (query : AttributeQuery) (bytes : List ℕ)
    → query.kind ≡ type_of attribute.Value → query_answer attributes query ≡ answer.Value bytes
    → (is_revealable attributes ≡ true)
    × (value_at attributes (type_of attribute.Value) ≡ Some bytes)
value-revealable attributes query bytes of_value e =
    let read = read-value (readable_value attributes query.kind) query.room bytes e in
    revealed (is_revealable attributes) (value_at attributes (type_of attribute.Value)) bytes
    (ap (readable_value attributes) (sym of_value) ∙ read)

given-query : (f : AttributeQuery → Answer) (o : Option AttributeQuery) (query : AttributeQuery)
    (given : Answer) → o ≡ Some query → option_map f o ≡ Some given → f query ≡ given
given-query f None query given o e = cc
given-query f (Some found) query given o e = cc

pub hidden-not_given : HiddenValuesAreNotGiven
hidden-not_given limits e h good handle bytes gives =
    let reply = good.legal.0 ∙ ap (answer limits h) gives.asks in
    let same : (unless (get_attribute_value_error h gives.session handle)
    (queries_reply (attributes_or_empty h handle) gives.queries)).body
    ≡ body.Attributes gives.answers =
    sym (ap (λ (r : Reply). r.body) reply) ∙ gives.returns in
    let answers = unrefused (get_attribute_value_error h gives.session handle)
    (attributes_or_empty h handle) gives.queries gives.answers same in
    let found = object-found (attributes_named h handle) (λ attributes. None)
    rv_error.ObjectHandleInvalid
    (last-passes (object_error h handle (λ attributes. None))
    (later-passes (session_error h gives.session) _ answers.0)) in
    let listed = ap (λ items. map (query_answer items) gives.queries)
    (ap (λ o. unwrap_or o []) found.1) in
    let placed = sym (slice_get-map (query_answer found.0) gives.queries gives.place)
    ∙ ap (λ xs. slice_get xs gives.place) (sym (answers.1 ∙ listed)) ∙ gives.given in
    let read = value-revealable found.0 gives.query bytes gives.of_value
    (given-query (query_answer found.0) (slice_get gives.queries gives.place) gives.query
    (answer.Value bytes) gives.queried placed) in
    record { attributes = found.0; named = found.1; revealable = read.0; value = read.1 }
