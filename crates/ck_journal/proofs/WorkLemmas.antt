-- An operation that no later entry starts again or adds to, and work on its message
use Rattle.std.proofs.Common.{◌≡◌, ℕ, ◌<◌, ◌≤◌, Bool, true, false, cond, List, [], ◌∷◌, ◌++◌}
use Rattle.std.proofs.Common.{Option, Some, None, length, not, refl, sym, ap, ◌∙◌, subst, arith}
use Rattle.std.proofs.Common.{append-nil}
use Rattle.std.specs.Prelude.{◌==◌, ◌||◌, IfSome}
use Rattle.std.proofs.Math.Dec.{eqb-suc-zero}
use Rattle.ck_mac.specs.Computations.{Computation}
use Rattle.ck_mac.specs.RunningTags.{HoldsTag}
use Rattle.ck_mac.specs.declared.running_tags.RunningTag.{RunningTag}
use Rattle.ck_journal.specs.declared.calls.Call.{Call}
use Rattle.ck_journal.specs.declared.calls.Entry.{Entry}
use Rattle.ck_journal.specs.declared.operations.OperationKind.{OperationKind}
use Rattle.ck_journal.specs.declared.works.Work.{Work}
use Rattle.ck_journal.specs.Fronts.{IsFront}
use Rattle.ck_journal.specs.Histories.{History, ◌◁◌, done, followed_by, entry_count}
use Rattle.ck_journal.specs.OperationCalls.{Step, on_operation, operation_step}
use Rattle.ck_journal.specs.Operations.{starts, piece_of, pieces_in, computation_in}
use Rattle.ck_journal.specs.Operations.{started_computation}
use Rattle.ck_journal.specs.Works.{operation_of, changed_in, HoldsAfter, HoldsWith, IsDone}
use Rattle.ck_journal.specs.Works.{bytes_taken, HoldsTagOf}

count-later : (f : History) (later : List Entry) → entry_count f ≤ entry_count (followed_by f later)
count-later f [] = omega arith
count-later f (e ∷ later) = let below = count-later f later in omega arith

-- what the session's operation of the kind computes, and the pieces of its message, are the same
pub record IsSame (k : OperationKind) (s : ℕ) (f h : History) : Type 0 where
  pub computation : computation_in k h s ≡ computation_in k f s
  pub pieces : pieces_in k h s ≡ pieces_in k f s

no-pieces : (pieces : List (List ℕ)) → not (length pieces == 0) ≡ false → pieces ≡ []
no-pieces [] none = refl
no-pieces (piece ∷ pieces) none = let some = eqb-suc-zero (length pieces) in cc

module _ (k : OperationKind) (s : ℕ) (f : History) where
  -- one more entry, by whether it starts the operation and by the pieces that it adds
  same-next : (e : Entry) (h : History) (started : Bool) (pieces : List (List ℕ)) (adds : Bool)
      → starts (done e) k s ≡ started → piece_of (done e) k s ≡ pieces
      → not (length pieces == 0) ≡ adds → entry_count f ≤ entry_count h
      → cond (started || adds) (entry_count h) (changed_in k h s) < entry_count f
      → (changed_in k h s < entry_count f → IsSame k s f h) → IsSame k s f (e ◁ h)
  same-next e h true pieces adds start piece none longer before same = absurd (omega arith)
  same-next e h false pieces true start piece none longer before same = absurd (omega arith)
  same-next e h false pieces false start piece none longer before same =
      let is = same before in
      let quiet = piece ∙ no-pieces pieces none in
      record {
        computation =
            ap (λ t. cond t (started_computation h (done e)) (computation_in k h s)) start
            ∙ is.computation;
        pieces =
            ap (λ t. cond t [] (pieces_in k h s ++ piece_of (done e) k s)) start
            ∙ ap (λ piece. pieces_in k h s ++ piece) quiet ∙ append-nil (pieces_in k h s)
            ∙ is.pieces;
      }

  -- where it was last changed before the front
  pub same_since : (later : List Entry)
      → changed_in k (followed_by f later) s < entry_count f → IsSame k s f (followed_by f later)
  same_since [] before = record { computation = refl; pieces = refl }
  same_since (e ∷ later) before =
      let h = followed_by f later in
      same-next e h (starts (done e) k s) (piece_of (done e) k s)
      (not (length (piece_of (done e) k s) == 0)) refl refl refl (count-later f later) before
      (same_since later)

both-same : (a b : OperationKind × ℕ) → Some a ≡ Some b → (a.0 ≡ b.0) × (a.1 ≡ b.1)
both-same a b is =
    let same : a ≡ b = cc in
    (ap (λ (p : OperationKind × ℕ). p.0) same, ap (λ (p : OperationKind × ℕ). p.1) same)

-- work that was done at a front in which the operation was as it is now
module _ (k : OperationKind) (s : ℕ) (c : Call) (w : Work) (f : History) where
  done-later : (later : List Entry) → operation_of c ≡ Some (k, s)
      → changed_in k (followed_by f later) s < w.entries → IsDone f c w
      → HoldsAfter (followed_by f later) c w.running
  done-later later on before is o step =
      let h = followed_by f later in
      let named = both-same (o.kind, o.session) (k, s) (rw step at on) in
      let earlier : changed_in k h s < entry_count f = omega (arith, is.entries) in
      let same = same_since o.kind o.session f later (rw (named.0, named.1) earlier) in
      rw (same.computation, same.pieces) (is.holds o step)

  pub done-since : (h : History) → IsFront f h → operation_of c ≡ Some (k, s)
      → changed_in k h s < w.entries → IsDone f c w → HoldsAfter h c w.running
  done-since h front on before is =
      subst (λ h. HoldsAfter h c w.running) (sym front.1)
      (done-later front.0 on (subst (λ h. changed_in k h s < w.entries) front.1 before) is)

-- a running tag that is of what is computed shows that something is
pub computed : (found : Option Computation) (running : RunningTag) (message : List ℕ)
    → HoldsTagOf found running message
    → (c : Computation) × (found ≡ Some c) × HoldsTag c running message
computed None running message holds = absurd holds
computed (Some c) running message holds = (c, refl, holds)

-- a running tag that is ready for a call is so for the operation that the call's step is on
pub ready-for : (h : History) (c : Call) (k : OperationKind) (s : ℕ) (x : Step)
    → operation_step c ≡ on_operation k s x → (ready : Option RunningTag)
    → IfSome ready (HoldsAfter h c) → IfSome ready (HoldsWith k h s (bytes_taken x))
ready-for h c k s x step None holds = tt
ready-for h c k s x step (Some running) holds =
    holds (record { kind = k; session = s; step = x }) step
