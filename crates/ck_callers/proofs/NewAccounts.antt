-- Accounts of callers that have made no call
use Rattle.std.proofs.Common.{◌≡◌, ℕ, zero, suc, ◌≤◌, List, [], ◌∷◌, ◌++◌, refl, sym, ap, ◌∙◌}
use Rattle.std.proofs.Common.{arith}
use Rattle.ck_callers.specs.Accounts.{AccountState, AreNew, LedgerNames, name_of, new_account}
use Rattle.ck_callers.specs.Accounts.{new_accounts, with_account}

-- names that are known of ledgers are those of the same ledgers
pub same_name : {l m : LedgerNames} {known : ℕ → ℕ} → l ≡ m → ((n : ℕ) → known n ≡ name_of m n)
    → (n : ℕ) → name_of l n ≡ known n
same_name is names n = ap (λ x. name_of x n) is ∙ sym (names n)

-- one more new account
one_more : (accounts : List AccountState) (number : ℕ) → AreNew accounts
    → AreNew (accounts ++ new_account number ∷ [])
one_more [] number new = (refl, tt)
one_more (a ∷ accounts) number new = (new.0, one_more accounts number new.1)

-- the accounts of the callers 1 to n are new
pub all_new : (n : ℕ) → AreNew (new_accounts n)
all_new zero = tt
all_new (suc n) = one_more (new_accounts n) (suc n) (all_new n)

added : (n : ℕ) → 1 ≤ n → n ≤ 8
    → with_account n 8 (with_account n 7 (with_account n 6
    (with_account n 5 (with_account n 4 (with_account n 3
    (with_account n 2 (with_account n 1 []))))))) ≡ new_accounts n
added zero low high = absurd (omega arith)
added (suc zero) low high = refl
added (suc (suc zero)) low high = refl
added (suc (suc (suc zero))) low high = refl
added (suc (suc (suc (suc zero)))) low high = refl
added (suc (suc (suc (suc (suc zero))))) low high = refl
added (suc (suc (suc (suc (suc (suc zero)))))) low high = refl
added (suc (suc (suc (suc (suc (suc (suc zero))))))) low high = refl
added (suc (suc (suc (suc (suc (suc (suc (suc zero)))))))) low high = refl
added (suc (suc (suc (suc (suc (suc (suc (suc (suc n))))))))) low high = absurd (omega arith)

-- those of the callers 1 to 8 that are among the callers 1 to n are added one after the other
pub all_added : (n : ℕ) (none one two three four five six seven eight : List AccountState) → 1 ≤ n
    → n ≤ 8
    → none ≡ [] → one ≡ with_account n 1 none → two ≡ with_account n 2 one
    → three ≡ with_account n 3 two
    → four ≡ with_account n 4 three → five ≡ with_account n 5 four → six ≡ with_account n 6 five
    → seven ≡ with_account n 7 six → eight ≡ with_account n 8 seven → eight ≡ new_accounts n
all_added n none one two three four five six seven eight low high is0 is1 is2 is3 is4 is5 is6 is7
    is8 =
    rw (is8, is7, is6, is5, is4, is3, is2, is1, is0) (added n low high)
