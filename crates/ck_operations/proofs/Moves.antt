-- How active operations keep agreeing with the history
use Rattle.std.proofs.Common.{◌≡◌, ℕ, suc, Bool, true, false, cond, not, List, [], ◌∷◌, ◌++◌}
use Rattle.std.proofs.Common.{Option, Some, None, length, refl, sym, ap, ◌∙◌, subst, append-nil}
use Rattle.std.proofs.Common.{append_assoc, arith}
use Rattle.std.specs.Prelude.{◌==◌, ◌&&◌, filter, find, option_map, option_and_then, IfSome}
use Rattle.std.specs.List.{concat}
use Rattle.std.specs.Option.{option_or}
use Rattle.std.proofs.lemmas.Bool.{ne_eqb, eqb-true, and_parts}
use Rattle.std.proofs.lemmas.List.Folds.{find-append}
use Rattle.ck_journal.specs.declared.calls.Entry.{Entry}
use Rattle.ck_journal.specs.declared.operations.OperationKind.{OperationKind}
use Rattle.ck_journal.specs.Histories.{History, ◌◁◌, done, entry_count}
use Rattle.ck_journal.specs.Objects.{object_named}
use Rattle.ck_journal.specs.OperationCalls.{same_kind}
use Rattle.ck_journal.specs.Operations.{is_active, computation_in, key_in, pieces_in}
use Rattle.ck_journal.specs.Operations.{started_computation, init_key, names_kind}
use Rattle.ck_journal.specs.Works.{changed_in, HoldsWith, HoldsTagOf}
use Rattle.ck_journal.proofs.NumberTests.{eqb-swap}
use Rattle.ck_mac.specs.Computations.{Computation}
use Rattle.ck_mac.specs.RunningTags.{HoldsTag}
use Rattle.ck_mac.specs.declared.running_tags.RunningTag.{RunningTag}
use Rattle.ck_operations.specs.Agreement.{OperationsState, ActiveOperation, operation_at}
use Rattle.ck_operations.specs.Agreement.{OptionAgrees, OperationAgrees, OperationsAgree}
use Rattle.ck_operations.specs.Moves.{Move, Stay, Start, Add, End, Does, OnlyIn, OnlyInSession}
use Rattle.ck_operations.specs.Moves.{OnlyNamed, InAll, IsStartOf}
use Rattle.ck_operations.specs.Rows.{is_operation, is_of_session, is_named, new_operation}
use Rattle.ck_operations.specs.Rows.{Piece, IsUpdateOf, IsUpdateOfRows, IsUpdateOfOption}
use Rattle.ck_operations.specs.Rows.{HoldsMessageOf}
use Rattle.ck_operations.specs.declared.active_operations.Operation.{Operation}
use Rattle.ck_operations.proofs.RowLemmas.{find-kept, find-removed, operation-is, same_kind-eq}
use Rattle.ck_operations.proofs.RowLemmas.{same_kind-swap}

concat-append : (xs : List (List ℕ)) (y : List ℕ) → concat (xs ++ y ∷ []) ≡ concat xs ++ y
concat-append [] y = append-nil y
concat-append (x ∷ xs) y =
    ap (λ rest. x ++ rest) (concat-append xs y) ∙ sym (append_assoc x (concat xs) y)

not-empty : (pieces : List (List ℕ)) (bytes : List ℕ) → length (pieces ++ bytes ∷ []) == 0 ≡ false
not-empty [] bytes = ne_eqb 1 0 (λ z. omega arith)
not-empty (p ∷ pieces) bytes = ne_eqb (suc (length (pieces ++ bytes ∷ []))) 0 (λ z. omega arith)

-- ---- the history's operation after one more entry

-- what a move makes of it, where a start makes this
abbrev moved : ActiveOperation → Move → Option ActiveOperation → Option ActiveOperation
moved started Stay before = before
moved started Start before = Some started
moved started (Add bytes) before =
    option_map (λ (a : ActiveOperation). record a {
      message = a.message ++ bytes;
      updated = true;
      changed = started.changed;
    }) before
moved started End before = None

-- what an entry starts
abbrev started_by : History → Entry → ActiveOperation
started_by h e = record {
  computation = started_computation h (done e);
  key = option_and_then (object_named h) (init_key (done e));
  message = [];
  updated = false;
  changed = entry_count h;
}

-- the operation by the facts of it
abbrev operation_by : Bool → Option Computation → Option ℕ → List (List ℕ) → ℕ
    → Option ActiveOperation
operation_by active computation key pieces changed =
    cond active
    (Some (record {
      computation = computation;
      key = key;
      message = concat pieces;
      updated = not (length pieces == 0);
      changed = changed;
    }))
    None

by-added : (started : ActiveOperation) (bytes : List ℕ) (active : Bool)
    (computation : Option Computation) (key : Option ℕ) (pieces : List (List ℕ)) (changed : ℕ)
    → operation_by active computation key (pieces ++ bytes ∷ []) started.changed
    ≡ moved started (Add bytes) (operation_by active computation key pieces changed)
by-added started bytes false computation key pieces changed = refl
by-added started bytes true computation key pieces changed =
    rw (concat-append pieces bytes, not-empty pieces bytes) refl

module _ (k : OperationKind) (e : Entry) (h : History) (s : ℕ) where
  pub operation_at-moved : (move : Move) → Does move e k s
      → operation_at k (e ◁ h) s ≡ moved (started_by h e) move (operation_at k h s)
  operation_at-moved Stay does =
      rw (does.0, does.1, does.2)
      (ap (λ pieces. operation_by (is_active k h s) (computation_in k h s) (key_in k h s) pieces
      (changed_in k h s)) (append-nil (pieces_in k h s)))
  operation_at-moved Start does = rw does refl
  operation_at-moved (Add bytes) does =
      rw (does.0, does.1, does.2)
      (by-added (started_by h e) bytes (is_active k h s) (computation_in k h s) (key_in k h s)
      (pieces_in k h s) (changed_in k h s))
  operation_at-moved End does = rw (does.0, does.1) refl

-- ---- operations that are looked for, and those of the history

-- none is found where none is active
none-found : (found : Option Operation) → OptionAgrees found None → found ≡ None
none-found None same = refl
none-found (Some o) same = absurd same

idle-none : (k : OperationKind) (h : History) (s : ℕ) → is_active k h s ≡ false
    → operation_at k h s ≡ None
idle-none k h s idle =
    ap (λ t. operation_by t (computation_in k h s) (key_in k h s) (pieces_in k h s)
    (changed_in k h s)) idle

-- the tag that is ready is right for the operation, where one is active
abbrev IsReadyFor : Piece → Option ActiveOperation → Type 0
IsReadyFor piece None = Unit {0}
IsReadyFor piece (Some a) =
    IfSome piece.ready (λ running. HoldsTagOf a.computation running (a.message ++ piece.bytes))

-- an operation that has taken in a message has this one and the piece after an update
message-added : (piece : Piece) (old new : Operation) (computation : Option Computation)
    (message : List ℕ) → IsUpdateOf piece old new
    → IfSome piece.ready (λ running. HoldsTagOf computation running (message ++ piece.bytes))
    → HoldsMessageOf computation old message
    → HoldsMessageOf computation new (message ++ piece.bytes)
message-added piece old new None message added ready holds = absurd holds
message-added piece old new (Some computation) message added ready holds =
    added.message computation message ready holds

added-same : (started : ActiveOperation) (piece : Piece) (old new : Option Operation)
    (before : Option ActiveOperation)
    → piece.entries ≡ started.changed → IsReadyFor piece before → IsUpdateOfOption piece old new
    → OptionAgrees old before → OptionAgrees new (moved started (Add piece.bytes) before)
added-same started piece (Some a) (Some b) (Some before) now ready added same = record {
  message = message-added piece a b before.computation before.message added ready same.message;
  key = added.key ∙ same.key;
  updated = added.updated;
  changed = added.changed ∙ now;
}
added-same started piece (Some a) (Some b) None now ready added same = absurd same
added-same started piece (Some a) None before now ready added same = absurd added
added-same started piece None (Some b) before now ready added same = absurd added
added-same started piece None None (Some before) now ready added same = absurd same
added-same started piece None None None now ready added same = tt

ready-for : (piece : Piece) (k : OperationKind) (h : History) (s : ℕ)
    → IfSome piece.ready (HoldsWith k h s piece.bytes) → IsReadyFor piece (operation_at k h s)
ready-for piece k h s ready = cases (is_active k h s)
  where
    cases : (active : Bool) → IsReadyFor piece
        (operation_by active (computation_in k h s) (key_in k h s) (pieces_in k h s)
        (changed_in k h s))
    cases true = ready
    cases false = tt

or-none : (found : Option Operation) → option_or found None ≡ found
or-none None = refl
or-none (Some o) = refl

module _ (h : History) (old : OperationsState) (agree : OperationsAgree h old) (e : Entry) where
  abbrev after : Move → OperationKind → ℕ → Option ActiveOperation
  after move k s = moved (started_by h e) move (operation_at k h s)

  -- by what the entry does to each operation
  moves : (new : OperationsState) (move : OperationKind → ℕ → Move)
      → ((k : OperationKind) (s : ℕ) → Does (move k s) e k s)
      → ((k : OperationKind) (s : ℕ) → OptionAgrees (find (is_operation k s) new.rows)
      (after (move k s) k s))
      → OperationsAgree (e ◁ h) new
  moves new move does same = record {
    each =
        λ k s. subst (OptionAgrees (find (is_operation k s) new.rows))
        (sym (operation_at-moved k e h s (move k s) (does k s)))
        (same k s);
  }

  pub operations-left : InAll Stay e → OperationsAgree (e ◁ h) old
  operations-left does = moves old (λ k s. Stay) does agree.each

  -- the entry ends some operations, and those are removed that pass a test which says the same
  removed : (ended : OperationKind → ℕ → Bool) (test : Operation → Bool)
      → ((o : Operation) → test o ≡ ended o.kind o.session)
      → ((k : OperationKind) (s : ℕ) → Does (cond (ended k s) End Stay) e k s)
      → (new : OperationsState) → new.rows ≡ filter (λ (row : Operation). not (test row)) old.rows
      → OperationsAgree (e ◁ h) new
  removed ended test says does new rows =
      moves new (λ k s. cond (ended k s) End Stay) does (λ k s. by k s (ended k s) refl)
    where
      tested : (k : OperationKind) (s : ℕ) (o : Operation) → is_operation k s o ≡ true
          → test o ≡ ended k s
      tested k s o passes =
          let is = operation-is k s o passes in says o ∙ rw (is.0, is.1) refl

      by : (k : OperationKind) (s : ℕ) (t : Bool) → ended k s ≡ t
          → OptionAgrees (find (is_operation k s) new.rows) (after (cond t End Stay) k s)
      by k s true here =
          subst (λ found. OptionAgrees found None)
          (sym (ap (find (is_operation k s)) rows
          ∙ find-removed (is_operation k s) (λ o. not (test o))
          (λ o passes. ap not (tested k s o passes ∙ here)) old.rows)) tt
      by k s false there =
          subst (λ found. OptionAgrees found (operation_at k h s))
          (sym (ap (find (is_operation k s)) rows
          ∙ find-kept (is_operation k s) (λ o. not (test o))
          (λ o passes. ap not (tested k s o passes ∙ there)) old.rows)) (agree.each k s)

  pub operations-ended : (kind : OperationKind) (session : ℕ) → OnlyIn kind session End e
      → (new : OperationsState)
      → new.rows ≡ filter (λ (row : Operation). not (is_operation kind session row)) old.rows
      → OperationsAgree (e ◁ h) new
  operations-ended kind session =
      removed (λ k s. same_kind kind k && session == s) (is_operation kind session)
      (λ o. rw (same_kind-swap kind o.kind, eqb-swap session o.session) refl)

  pub operations-closed : (session : ℕ) → OnlyInSession session End e → (new : OperationsState)
      → new.rows ≡ filter (λ (row : Operation). not (is_of_session session row)) old.rows
      → OperationsAgree (e ◁ h) new
  operations-closed session =
      removed (λ k s. session == s) (is_of_session session) (λ o. eqb-swap o.session session)

  pub operations-cancelled : (session flags : ℕ) → OnlyNamed session flags End e
      → (new : OperationsState)
      → new.rows ≡ filter (λ (row : Operation). not (is_named session flags row)) old.rows
      → OperationsAgree (e ◁ h) new
  operations-cancelled session flags =
      removed (λ k s. session == s && names_kind flags k) (is_named session flags)
      (λ o. ap (λ t. t && names_kind flags o.kind) (eqb-swap o.session session))

  abbrev only : OperationKind → ℕ → Move → OperationKind → ℕ → Move
  only kind session move k s = cond (same_kind kind k && session == s) move Stay

  pub operations-added : (kind : OperationKind) (session : ℕ) (piece : Piece)
      → piece.entries ≡ entry_count h
      → IfSome piece.ready (HoldsWith kind h session piece.bytes)
      → OnlyIn kind session (Add piece.bytes) e
      → (new : OperationsState) → IsUpdateOfRows kind session piece old.rows new.rows
      → OperationsAgree (e ◁ h) new
  operations-added kind session piece now ready does new is =
      moves new (only kind session (Add piece.bytes)) does
      (λ k s. added k s (same_kind kind k && session == s) refl)
    where
      added : (k : OperationKind) (s : ℕ) (t : Bool) → (same_kind kind k && session == s) ≡ t
          → OptionAgrees (find (is_operation k s) new.rows)
          (after (cond t (Add piece.bytes) Stay) k s)
      added k s true here =
          let both = and_parts (same_kind kind k) (session == s) here in
          rw (← same_kind-eq kind k both.0, ← eqb-true session s both.1)
          (added-same (started_by h e) piece (find (is_operation kind session) old.rows)
          (find (is_operation kind session) new.rows)
          (operation_at kind h session) now (ready-for piece kind h session ready) is.added
          (agree.each kind session))
      added k s false there =
          subst (λ found. OptionAgrees found (operation_at k h s)) (sym (is.others k s there))
          (agree.each k s)

  pub operations-started : (kind : OperationKind) (session : ℕ) (running : RunningTag)
      (key : Option ℕ) (entries : ℕ) (computation : Computation) → entries ≡ entry_count h
      → HoldsTag computation running [] → IsStartOf h e computation key
      → OnlyIn kind session Start e → is_active kind h session ≡ false → (new : OperationsState)
      → new.rows ≡ old.rows ++ new_operation kind session running key entries ∷ []
      → OperationsAgree (e ◁ h) new
  operations-started kind session running key entries computation now holds of does idle new rows =
      moves new (only kind session Start) does
      (λ k s. started k s (same_kind kind k && session == s) refl)
    where
      o : Operation
      o = new_operation kind session running key entries

      agrees : OperationAgrees o (started_by h e)
      agrees = record {
        message = subst (λ c. HoldsTagOf c running []) (sym of.computation) holds;
        key = sym of.key;
        updated = refl;
        changed = now;
      }

      started : (k : OperationKind) (s : ℕ) (t : Bool) → (same_kind kind k && session == s) ≡ t
          → OptionAgrees (find (is_operation k s) new.rows) (after (cond t Start Stay) k s)
      started k s true here =
          let both = and_parts (same_kind kind k) (session == s) here in
          let p = is_operation k s in
          let inactive : operation_at k h s ≡ None =
          rw (← same_kind-eq kind k both.0, ← eqb-true session s both.1)
          (idle-none kind h session idle) in
          let none : find p old.rows ≡ None = none-found (find p old.rows)
          (subst (OptionAgrees (find p old.rows)) inactive (agree.each k s)) in
          let last : find p new.rows ≡ Some o =
          ap (find p) rows ∙ find-append p old.rows (o ∷ [])
          ∙ ap (λ found. option_or found (find p (o ∷ []))) none
          ∙ ap (λ t. cond t (Some o) None) here in
          subst (λ found. OptionAgrees found (Some (started_by h e))) (sym last) agrees
      started k s false there =
          let p = is_operation k s in
          let before : find p new.rows ≡ find p old.rows =
          ap (find p) rows ∙ find-append p old.rows (o ∷ [])
          ∙ ap (λ t. option_or (find p old.rows) (cond t (Some o) None)) there
          ∙ or-none (find p old.rows) in
          subst (λ found. OptionAgrees found (operation_at k h s)) (sym before) (agree.each k s)
