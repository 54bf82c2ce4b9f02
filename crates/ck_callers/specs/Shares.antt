-- The part of a ledger that a caller has
use Rattle.std.specs.Prelude.{◌≡◌, ℕ, ◌≤◌}
use Rattle.ck_callers.specs.declared.ledgers.CallerShare.{CallerShare}
use Rattle.ck_callers.specs.declared.ledgers.CallerShare.TheVariants as share

module _ {K : Type 0} where
  -- the caller whose share it is
  abbrev pub caller_of : CallerShare K → ℕ
  caller_of (share.One s) = 1
  caller_of (share.Two s) = 2
  caller_of (share.Three s) = 3
  caller_of (share.Four s) = 4
  caller_of (share.Five s) = 5
  caller_of (share.Six s) = 6
  caller_of (share.Seven s) = 7
  caller_of (share.Eight s) = 8

  -- how many calls it counts
  abbrev pub amount_of : CallerShare K → ℕ
  amount_of (share.One s) = s.amount
  amount_of (share.Two s) = s.amount
  amount_of (share.Three s) = s.amount
  amount_of (share.Four s) = s.amount
  amount_of (share.Five s) = s.amount
  amount_of (share.Six s) = s.amount
  amount_of (share.Seven s) = s.amount
  amount_of (share.Eight s) = s.amount

  -- how many parts of the ledger it has
  abbrev pub parts_of : CallerShare K → ℕ
  parts_of (share.One s) = s.parts
  parts_of (share.Two s) = s.parts
  parts_of (share.Three s) = s.parts
  parts_of (share.Four s) = s.parts
  parts_of (share.Five s) = s.parts
  parts_of (share.Six s) = s.parts
  parts_of (share.Seven s) = s.parts
  parts_of (share.Eight s) = s.parts

  -- it is that of this caller, whose number is at most `most`, and counts `calls` calls
  pub record IsShareOf (most caller calls : ℕ) (s : CallerShare K) : Type 0 where
    pub number : caller ≡ caller_of s
    pub known : caller ≤ most
    pub count : calls ≡ amount_of s
    pub one_part : parts_of s ≡ 1
