-- The outputs of callers' work
use Rattle.std.proofs.Common.{◌≡◌, List, [], ◌∷◌, ◌++◌, length, subst, arith}
use Rattle.std.specs.List.{AllZip}
use Rattle.std.specs.Prelude.{All, zip}
use Rattle.std.proofs.lemmas.List.Elements.{All-head, All-tail}
use Rattle.ck_journal.specs.Histories.{History}
use Rattle.ck_callers.specs.Callers.{CallerState, IsSettled}
use Rattle.ck_shared.specs.Outputs.{HasActed, IsOfCaller}

-- the same of an equal work and caller
pub acted_same : {Work Output : Type 0}
    (holds : Work → CallerState → CallerState → Output → Type 0) (v w : Work) (b c : CallerState)
    (done : Output × CallerState) → v ≡ w → b ≡ c → HasActed (holds v) b done
    → HasActed (holds w) c done
acted_same holds v w b c done same_work same acted =
    subst (λ x. HasActed (holds x) c done) same_work
    (subst (λ x. HasActed (holds v) x done) same acted)

-- one more caller has done its work
pub acted_push : {Output : Type 0} (R : CallerState → Output × CallerState → Type 0)
    (callers : List CallerState) (outputs : List Output) (after : List CallerState)
    (caller : CallerState) (done : Output × CallerState)
    → length outputs ≡ length callers → length after ≡ length callers
    → AllZip R callers (zip outputs after) → R caller done
    → AllZip R (callers ++ caller ∷ []) (zip (outputs ++ done.0 ∷ []) (after ++ done.1 ∷ []))
acted_push R [] [] [] caller done given back each last = (last, tt)
acted_push R [] [] (a ∷ after) caller done given back each last = absurd (omega arith)
acted_push R [] (o ∷ outputs) after caller done given back each last = absurd (omega arith)
acted_push R (c ∷ callers) [] after caller done given back each last = absurd (omega arith)
acted_push R (c ∷ callers) (o ∷ outputs) [] caller done given back each last = absurd (omega arith)
acted_push R (c ∷ callers) (o ∷ outputs) (a ∷ after) caller done given back each last = (
  each.0,
  acted_push R callers outputs after caller done (omega arith) (omega arith) each.1 last,
)

-- the outputs of callers that have done their work and are settled
pub of_callers : {Output : Type 0} (holds : CallerState → CallerState → Output → Type 0)
    (h : History) (callers : List CallerState) (outputs : List Output) (after : List CallerState)
    → length outputs ≡ length callers → length after ≡ length callers
    → AllZip (HasActed holds) callers (zip outputs after) → All (IsSettled h) after
    → AllZip (IsOfCaller holds h) callers outputs
of_callers holds h [] [] after given back each settled = tt
of_callers holds h [] (o ∷ outputs) after given back each settled = absurd (omega arith)
of_callers holds h (c ∷ callers) [] after given back each settled = absurd (omega arith)
of_callers holds h (c ∷ callers) (o ∷ outputs) [] given back each settled = absurd (omega arith)
of_callers holds h (c ∷ callers) (o ∷ outputs) (a ∷ after) given back each settled = (
  (a, each.0.0, All-head (IsSettled h) a after settled, each.0.1),
  of_callers holds h callers outputs after (omega arith) (omega arith) each.1
      (All-tail (IsSettled h) a after settled),
)
