-- The text of several values between commas, the first one apart
use Rattle.std.proofs.Common.{◌≡◌, ◌≤◌, ℕ, List, [], ◌∷◌, ◌++◌, length, drop, sym, ap, ◌∙◌}
use Rattle.std.proofs.Common.{append_assoc}
use Rattle.std.specs.Prelude.{flat_map, map}
use Rattle.std.specs.List.{join_with_byte}
use Rattle.std.proofs.lemmas.List.{append-nil, drop_all}
use Rattle.ck_script.specs.Arguments.{comma}

joined-first : {A : Type 0} (text : A → List ℕ) (first : A) (rest : List A)
    → join_with_byte comma (map text (first ∷ rest))
    ≡ text first ++ flat_map (λ a. comma ∷ text a) rest
joined-first text first [] = sym (append-nil (text first))
joined-first text first (second ∷ rest) =
    ap (λ more. text first ++ comma ∷ more) (joined-first text second rest)

-- all values are appended, where the first is, and the rest behind it up to its end
pub joined-rest : {A : Type 0} (text : A → List ℕ) (first : A) (rest : List A) (i : ℕ)
    (old next new : List ℕ)
    → next ≡ old ++ text first → length rest ≤ i
    → new ++ flat_map (λ a. comma ∷ text a) (drop i rest)
    ≡ next ++ flat_map (λ a. comma ∷ text a) rest
    → new ≡ old ++ join_with_byte comma (map text (first ∷ rest))
joined-rest text first rest i old next new one over all =
    rw (joined-first text first rest, ← append_assoc, ← one)
    (sym (append-nil new) ∙ rw (drop_all i rest over) at all)
