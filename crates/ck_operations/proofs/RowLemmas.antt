-- Active operations that are looked for, after rows were added, changed or removed
use Rattle.std.proofs.Common.{◌≡◌, ℕ, Bool, true, false, cond, List, [], ◌∷◌, Option, Some, None}
use Rattle.std.proofs.Common.{refl, sym, ap, ◌∙◌, get_or}
use Rattle.std.specs.Prelude.{◌==◌, ◌&&◌, filter, find}
use Rattle.std.specs.List.{position, position_or_len, slice_get}
use Rattle.std.proofs.Math.ListN.{set}
use Rattle.std.proofs.lemmas.Bool.{eqb-true, false≢true, ltb-false, and_parts}
use Rattle.std.proofs.lemmas.List.{get_or_default}
use Rattle.std.proofs.lemmas.List.Folds.{find_at, find-set}
use Rattle.std.proofs.lemmas.List.Quantifiers.{position-Some}
use Rattle.std.proofs.lemmas.Option.{cond_some, slice_get-get_or, slice_get_past}
use Rattle.ck_journal.specs.declared.operations.OperationKind.{OperationKind}
use Rattle.ck_journal.specs.declared.operations.OperationKind.TheVariants as kind
use Rattle.ck_journal.specs.Lists.{change_first}
use Rattle.ck_operations.specs.declared.active_operations.Operation.{Operation}
use Rattle.ck_journal.proofs.Changes.{change_first-place}
use Rattle.ck_journal.proofs.Selections.{cond_none}
use Rattle.ck_journal.specs.OperationCalls.{same_kind}
use Rattle.ck_operations.specs.Rows.{is_operation, Piece, IsUpdateOfRows, IsUpdateOf}
use Rattle.ck_operations.specs.Rows.{IsUpdateOfOption}

module _ {X : Type 0} (test keeps : X → Bool) where
  kept-step : (x : X) (xs : List X) → (test x ≡ true → keeps x ≡ true)
      → find test (filter keeps xs) ≡ find test xs → (k t : Bool) → keeps x ≡ k → test x ≡ t
      → find test (cond k (x ∷ filter keeps xs) (filter keeps xs)) ≡ cond t (Some x) (find test xs)
  kept-step x xs all later true t kept passes =
      ap (λ t. cond t (Some x) (find test (filter keeps xs))) passes ∙ ap (cond t (Some x)) later
  kept-step x xs all later false true kept passes = absurd (false≢true (sym kept ∙ all passes))
  kept-step x xs all later false false kept passes = later

  -- what is kept has all that pass the test
  pub find-kept : ((x : X) → test x ≡ true → keeps x ≡ true) → (xs : List X)
      → find test (filter keeps xs) ≡ find test xs
  find-kept all [] = refl
  find-kept all (x ∷ xs) = kept-step x xs (all x) (find-kept all xs) (keeps x) (test x) refl refl

  removed-step : (x : X) (xs : List X) → (test x ≡ true → keeps x ≡ false)
      → find test (filter keeps xs) ≡ None → (k t : Bool) → keeps x ≡ k → test x ≡ t
      → find test (cond k (x ∷ filter keeps xs) (filter keeps xs)) ≡ None
  removed-step x xs none later true true kept passes =
      absurd (false≢true (sym (none passes) ∙ kept))
  removed-step x xs none later true false kept passes =
      ap (λ t. cond t (Some x) (find test (filter keeps xs))) passes ∙ later
  removed-step x xs none later false t kept passes = later

  -- none that passes the test is kept
  pub find-removed : ((x : X) → test x ≡ true → keeps x ≡ false) → (xs : List X)
      → find test (filter keeps xs) ≡ None
  find-removed none [] = refl
  find-removed none (x ∷ xs) =
      removed-step x xs (none x) (find-removed none xs) (keeps x) (test x) refl refl

module _ {X : Type 0} (test : X → Bool) (y : X) where
  abbrev replaced : List X → List X
  replaced xs = change_first test (λ x. y) xs

  other-step : (other : X → Bool) → other y ≡ false → (x : X) (xs : List X)
      → (test x ≡ true → other x ≡ false) → find other (replaced xs) ≡ find other xs → (t : Bool)
      → test x ≡ t
      → find other (cond t (y ∷ xs) (x ∷ replaced xs)) ≡ cond (other x) (Some x) (find other xs)
  other-step other fails x xs apart later true e =
      ap (λ t. cond t (Some y) (find other xs)) fails
      ∙ sym (ap (λ t. cond t (Some x) (find other xs)) (apart e))
  other-step other fails x xs apart later false e = ap (cond (other x) (Some x)) later

  -- others are found as before
  pub find-other : (other : X → Bool) → other y ≡ false
      → ((x : X) → test x ≡ true → other x ≡ false)
      → (xs : List X) → find other (replaced xs) ≡ find other xs
  find-other other fails apart [] = refl
  find-other other fails apart (x ∷ xs) =
      other-step other fails x xs (apart x) (find-other other fails apart xs) (test x) refl

-- ---- tests of operations

pub same_kind-eq : (k l : OperationKind) → same_kind k l ≡ true → k ≡ l
same_kind-eq kind.Digest kind.Digest e = refl
same_kind-eq kind.Sign kind.Sign e = refl
same_kind-eq kind.Verify kind.Verify e = refl
same_kind-eq kind.Digest kind.Sign e = cc
same_kind-eq kind.Digest kind.Verify e = cc
same_kind-eq kind.Sign kind.Digest e = cc
same_kind-eq kind.Sign kind.Verify e = cc
same_kind-eq kind.Verify kind.Digest e = cc
same_kind-eq kind.Verify kind.Sign e = cc

pub same_kind-swap : (k l : OperationKind) → same_kind k l ≡ same_kind l k
same_kind-swap kind.Digest kind.Digest = refl
same_kind-swap kind.Digest kind.Sign = refl
same_kind-swap kind.Digest kind.Verify = refl
same_kind-swap kind.Sign kind.Digest = refl
same_kind-swap kind.Sign kind.Sign = refl
same_kind-swap kind.Sign kind.Verify = refl
same_kind-swap kind.Verify kind.Digest = refl
same_kind-swap kind.Verify kind.Sign = refl
same_kind-swap kind.Verify kind.Verify = refl

-- an operation that passes the test is of this kind in this session
pub operation-is : (k : OperationKind) (s : ℕ) (o : Operation) → is_operation k s o ≡ true
    → (o.kind ≡ k) × (o.session ≡ s)
operation-is k s o e =
    let both = and_parts (same_kind o.kind k) (o.session == s) e in
    (same_kind-eq o.kind k both.0, eqb-true o.session s both.1)

-- of this kind in this session, and so of no other
pub apart : (k l : OperationKind) (session s : ℕ) → (same_kind k l && session == s) ≡ false
    → (o : Operation) → is_operation k session o ≡ true → is_operation l s o ≡ false
apart k l session s other o e =
    let is = operation-is k session o e in rw is.0 (rw is.1 other)

-- ---- an operation that takes in a piece

find-nowhere : (test : Operation → Bool) (rows : List Operation) → position test rows ≡ None
    → find test rows ≡ None
find-nowhere test rows none =
    find_at test rows
    ∙ slice_get_past rows (position_or_len test rows)
    (ltb-false _ _ (cond_none _ (position_or_len test rows) none))

has-added : (piece : Piece) (old new : Operation) (a b : Option Operation) → a ≡ Some old
    → b ≡ Some new → IsUpdateOf piece old new → IsUpdateOfOption piece a b
has-added piece old new a b x y is = rw (x, y) is

module _ (k : OperationKind) (session : ℕ) (piece : Piece) (rows : List Operation) where
  pub added-at : (place : ℕ) (default new : Operation)
      → Some place ≡ position (is_operation k session) rows
      → IsUpdateOf piece (get_or rows place default) new
      → IsUpdateOfRows k session piece rows (set rows place new)
  added-at place default new found is =
      let old = get_or rows place default in
      let at = position-Some (is_operation k session) rows place default (sym found) in
      let p = cond_some _ (position_or_len (is_operation k session) rows) place (sym found) in
      let item : old ≡ get_or rows place old = get_or_default rows place default old at.0 in
      let passes-new : is_operation k session new ≡ true = rw (is.session, is.kind) at.1 in
      record {
        added = has-added piece old new _ _
            (find_at (is_operation k session) rows ∙ ap (slice_get rows) p.1
            ∙ slice_get-get_or rows place default at.0)
            (find-set (is_operation k session) rows place new (sym p.1) at.0 passes-new)
            is;
        others = λ l s apart-from.
            ap (find (is_operation l s))
            (change_first-place (is_operation k session) (λ o. new) rows place
            old found item)
            ∙ find-other (is_operation k session) new (is_operation l s)
            (apart k l session s apart-from new passes-new)
            (apart k l session s apart-from) rows;
      }

  nothing-added : (found : Option Operation) → found ≡ None → IsUpdateOfOption piece found found
  nothing-added found e = rw e tt

  pub added-nowhere : None ≡ position (is_operation k session) rows
      → IsUpdateOfRows k session piece rows rows
  added-nowhere none = record {
    added = nothing-added (find (is_operation k session) rows)
        (find-nowhere (is_operation k session) rows (sym none));
    others = λ l s apart-from. refl;
  }
