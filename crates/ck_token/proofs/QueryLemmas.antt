-- Values that can't be read, and the codes of queries
use Rattle.std.proofs.Common.{◌≡◌, ℕ, suc, ◌+◌, ◌<◌, Bool, true, false, cond, List, [], ◌∷◌, ◌++◌}
use Rattle.std.proofs.Common.{◌||◌}
use Rattle.std.proofs.Common.{Option, Some, None, length, take, get_or, refl, ap, ◌∙◌, arith}
use Rattle.std.specs.Prelude.{is_none, if◌then◌else◌}
use Rattle.std.specs.List.{list_any}
use Rattle.std.proofs.Math.Seq.{take-suc}
use Rattle.std.proofs.lemmas.List.Folds.{list_any-append}
use Rattle.ck_types.specs.Checks.{error_if, first_of}
use Rattle.ck_objects.specs.Records.{is_hidden, readable_value}
use Rattle.ck_objects.specs.Structs.{read_error}
use Rattle.ck_objects.specs.Templates.{value_at}
use Rattle.ck_types.specs.declared.errors.RvError.{RvError}
use Rattle.ck_types.specs.declared.errors.RvError.TheVariants as rv_error
use Rattle.ck_types.specs.declared.return_codes.Rv.{Rv}
use Rattle.ck_types.specs.declared.return_codes.Rv.TheVariants as rv
use Rattle.ck_objects.specs.declared.items.Item.{Item}
use Rattle.ck_journal.specs.Queries.{queries_code, asks_hidden, is_missing, lacks_room, is_longer}
use Rattle.ck_journal.specs.declared.calls.AttributeQuery.{AttributeQuery}
use Rattle.ck_token.specs.QueryCodes.{higher}

-- where there is an error, there is no value to read
pub unreadable : (items : List Item) (kind : ℕ) (code : RvError) → Some code ≡ read_error items kind
    → readable_value items kind ≡ None
unreadable items kind code e = cases (is_hidden items kind) (value_at items kind) e
  where
    cases : (hidden : Bool) (value : Option (List ℕ))
        → Some code ≡ first_of (error_if hidden rv_error.AttributeSensitive
        ∷ error_if (is_none value) rv_error.AttributeTypeInvalid ∷ [])
        → cond hidden None value ≡ None
    cases true value e = refl
    cases false None e = refl
    cases false (Some value) e = cc

-- the code of queries by what is so of any of them
abbrev code : Bool → Bool → Bool → Rv
code sensitive missing short =
    if sensitive then rv.Error rv_error.AttributeSensitive
    else if missing then rv.Error rv_error.AttributeTypeInvalid
    else if short then rv.Error rv_error.BufferTooSmall
    else rv.Ok

-- a test that is the only one
or-false : (test : Bool) → code false false (test || false) ≡ code false false test
or-false true = refl
or-false false = refl

-- with one query more the code is the higher of both
code-append : (items : List Item) (queries : List AttributeQuery) (query : AttributeQuery)
    → queries_code items (queries ++ (query ∷ []))
    ≡ higher (queries_code items queries) (queries_code items (query ∷ []))
code-append items queries query =
    rw (list_any-append (asks_hidden items) queries (query ∷ []))
    (rw (list_any-append (is_missing items) queries (query ∷ []))
    (rw (list_any-append (lacks_room items) queries (query ∷ []))
    (cases
    (list_any (asks_hidden items) queries)
    (list_any (is_missing items) queries)
    (list_any (lacks_room items) queries)
    (list_any (asks_hidden items) (query ∷ []))
    (list_any (is_missing items) (query ∷ []))
    (list_any (lacks_room items) (query ∷ [])))))
  where
    cases : (a b c x y z : Bool)
        → code (a || x) (b || y) (c || z) ≡ higher (code a b c) (code x y z)
    cases true b c true y z = refl
    cases true b c false true z = refl
    cases true b c false false true = refl
    cases true b c false false false = refl
    cases false true c true y z = refl
    cases false true c false true z = refl
    cases false true c false false true = refl
    cases false true c false false false = refl
    cases false false true true y z = refl
    cases false false true false true z = refl
    cases false false true false false true = refl
    cases false false true false false false = refl
    cases false false false true y z = refl
    cases false false false false true z = refl
    cases false false false false false true = refl
    cases false false false false false false = refl

-- up to the next query
pub code-next : (items : List Item) (i : ℕ) (queries : List AttributeQuery) (d : AttributeQuery)
    → i < length queries
    → queries_code items (take (i + 1) queries)
    ≡ higher (queries_code items (take i queries)) (queries_code items (get_or queries i d ∷ []))
code-next items i queries d within =
    let next : i + 1 ≡ suc i = omega arith in
    ap (λ k. queries_code items (take k queries)) next
    ∙ ap (queries_code items) (take-suc queries i d within)
    ∙ code-append items (take i queries) (get_or queries i d)

-- the code of a query whose value can't be read is why
pub unreadable-code : (items : List Item) (query : AttributeQuery) (error : RvError)
    → Some error ≡ read_error items query.kind
    → queries_code items (query ∷ []) ≡ rv.Error error
unreadable-code items query error e =
    cases (is_hidden items query.kind) (value_at items query.kind) e
  where
    cases : (hidden : Bool) (value : Option (List ℕ))
        → Some error ≡ first_of (error_if hidden rv_error.AttributeSensitive
        ∷ error_if (is_none value) rv_error.AttributeTypeInvalid ∷ [])
        → code (hidden || false) (is_none value || false)
        (is_longer (cond hidden None value) query.room || false) ≡ rv.Error error
    cases true value e = cc
    cases false None e = cc
    cases false (Some value) e = cc

-- that of one whose value can be read is whether it needs more room
pub readable-code : (items : List Item) (query : AttributeQuery) (value : List ℕ) (short : Bool)
    → readable_value items query.kind ≡ Some value → lacks_room items query ≡ short
    → queries_code items (query ∷ []) ≡ code false false short
readable-code items query value short e lacks =
    cases (is_hidden items query.kind) (value_at items query.kind) e lacks
  where
    cases : (hidden : Bool) (found : Option (List ℕ)) → cond hidden None found ≡ Some value
        → is_longer (cond hidden None found) query.room ≡ short
        → code (hidden || false) (is_none found || false)
        (is_longer (cond hidden None found) query.room || false)
        ≡ code false false short
    cases true found e lacks = cc
    cases false None e lacks = cc
    cases false (Some found) e lacks = rw lacks (or-false short)
