-- Callers that are made of accounts, one after the other
use Rattle.std.proofs.Common.{◌≡◌, List, [], ◌∷◌, ◌++◌, map, length, sym, ap, ◌∙◌, subst}
use Rattle.std.proofs.lemmas.List.{append-nil, nil_from_length}
use mathlib.Core.List.{append_assoc}
use Rattle.ck_journal.specs.declared.bases.Base.{Base}
use Rattle.ck_callers.specs.Accounts.{AccountState, AreNew}
use Rattle.ck_callers.specs.Callers.{CallerState, new_caller}

-- these callers were made, and these accounts are left
module _ (base : Base) (accounts : List AccountState) (made : List CallerState)
    (left : List AccountState)
    (so_far : made ++ map (new_caller base) left ≡ map (new_caller base) accounts) where
  pub made_next : (account : AccountState) (rest : List AccountState) → left ≡ account ∷ rest
      → AreNew left
      → (caller : CallerState) → caller ≡ new_caller base account
      → (all : List CallerState) → all ≡ made ++ caller ∷ []
      → AreNew rest × (all ++ map (new_caller base) rest ≡ map (new_caller base) accounts)
  made_next account rest is new caller of all gives = (
    (subst AreNew is new).1,
    ap (λ cs. cs ++ map (new_caller base) rest) (gives ∙ ap (λ c. made ++ c ∷ []) of)
        ∙ append_assoc made (new_caller base account ∷ []) (map (new_caller base) rest)
        ∙ ap (λ l. made ++ map (new_caller base) l) (sym is)
        ∙ so_far,
  )

  pub made_all : length left ≡ 0 → made ≡ map (new_caller base) accounts
  made_all none =
      sym (append-nil made) ∙ ap (λ l. made ++ map (new_caller base) l)
      (sym (nil_from_length left none)) ∙ so_far
