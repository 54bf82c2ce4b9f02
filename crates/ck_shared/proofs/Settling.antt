-- Callers that are given back one after the other
use Rattle.std.proofs.Common.{◌≡◌, List, ◌∷◌, sym, subst}
use Rattle.std.specs.Prelude.{All}
use Rattle.std.proofs.lemmas.List.Elements.{All-cons}

-- where it is so of the first of those that are left, and of the others, it is so of all
pub all_next : {X : Type 0} (P : X → Type 0) (x : X) (left rest all : List X) → left ≡ x ∷ rest
    → P x → (All P left → All P all) → All P rest → All P all
all_next P x left rest all is one then others =
    then (subst (All P) (sym is) (All-cons P x rest one others))
