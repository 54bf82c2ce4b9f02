-- How many callers a token is shared among
use Rattle.std.proofs.Common.{◌≡◌, ℕ, zero, suc, ◌∷◌, [], length, refl, ◌∙◌, arith, length-append}
use Rattle.std.proofs.lemmas.List.{length-map}
use Rattle.ck_journal.specs.declared.bases.Base.{Base}
use Rattle.ck_callers.specs.Accounts.{new_account, new_accounts}
use Rattle.ck_callers.specs.Callers.{new_caller, new_callers}

length-new_accounts : (n : ℕ) → length (new_accounts n) ≡ n
length-new_accounts zero = refl
length-new_accounts (suc n) =
    let before = length-new_accounts n in
    omega (arith, length-append (new_accounts n) (new_account (suc n) ∷ []))

pub length-new_callers : (base : Base) (n : ℕ) → length (new_callers base n) ≡ n
length-new_callers base n = length-map (new_accounts n) (new_caller base) ∙ length-new_accounts n
