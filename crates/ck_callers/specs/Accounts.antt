-- A caller's account
use Rattle.std.specs.Prelude.{◌≡◌, ℕ, zero, suc, ◌+◌, ◌-◌, List, [], ◌∷◌, ◌++◌, nat_le, slice_index}
use Rattle.std.specs.Prelude.{if◌then◌else◌}

-- a caller's number, and how many of its calls were answered
pub record AccountState : Type 0 where
  pub number : ℕ
  pub count : ℕ

-- the account after one more answered call
abbrev pub next_call : AccountState → AccountState
next_call a = record a { count = a.count + 1 }

-- ---- before the first call

-- the names of the ledgers of the callers 1 to 8
pub record LedgerNames : Type 0 where
  pub one : ℕ
  pub two : ℕ
  pub three : ℕ
  pub four : ℕ
  pub five : ℕ
  pub six : ℕ
  pub seven : ℕ
  pub eight : ℕ

abbrev pub name_of : LedgerNames → ℕ → ℕ
name_of l caller =
    slice_index (l.one ∷ l.two ∷ l.three ∷ l.four ∷ l.five ∷ l.six ∷ l.seven ∷ l.eight ∷ [])
    (caller - 1)

-- the books without calls
abbrev pub no_calls : List ℕ
no_calls = 0 ∷ 0 ∷ 0 ∷ 0 ∷ 0 ∷ 0 ∷ 0 ∷ 0 ∷ []

abbrev pub new_account : ℕ → AccountState
new_account number = record { number = number; count = 0 }

-- the accounts of the callers 1 to n
abbrev pub new_accounts : ℕ → List AccountState
new_accounts zero = []
new_accounts (suc n) = new_accounts n ++ new_account (suc n) ∷ []

-- the account of this caller is the next where its number is at most `most`
abbrev pub with_account : ℕ → ℕ → List AccountState → List AccountState
with_account most number accounts =
    if nat_le number most then accounts ++ new_account number ∷ [] else accounts

abbrev pub AreNew : List AccountState → Type 0
AreNew [] = Unit {0}
AreNew (a ∷ accounts) = (a.count ≡ 0) × AreNew accounts
