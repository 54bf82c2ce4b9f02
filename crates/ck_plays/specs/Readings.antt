-- Scripts that are read whole
use Rattle.std.specs.Prelude.{◌≡◌, ℕ, Bool, true, false, List, Result, Ok, Err}
use Rattle.ck_plays.specs.Devices.{Reading}
use Rattle.ck_plays.specs.Plays.{one_if, failed_reads, AreReads, after_reads}
use Rattle.ck_plays.specs.declared.faults.PlayFault.{PlayFault}
use Rattle.ck_plays.specs.declared.faults.PlayFault.TheVariants as fault

-- what was read: all of the script, or a part of it where a fault came before the end
abbrev pub HasReadTo : Bool → List ℕ → List ℕ → Result (Unit {0}) PlayFault → Type 0
HasReadTo ended script bytes (Ok u) = (ended ≡ true) × (bytes ≡ script)
HasReadTo ended script bytes (Err fault.Read) = ended ≡ false
HasReadTo ended script bytes (Err fault.Memory) = ended ≡ false
HasReadTo ended script bytes (Err fault.Turns) = ended ≡ false
HasReadTo ended script bytes other = ⊥

-- a script is read to its end, in at most `most` reads, or up to a fault
pub record IsReadWhole (most : ℕ) (read : Reading) (is_read : Reading → Type 0) (bytes : List ℕ)
    (result : Result (Unit {0}) PlayFault) : Type 0 where
  pub script : List ℕ
  pub earlier : List ℕ
  pub ended : Bool
  pub reads : ℕ
  pub reader : is_read (after_reads read script earlier reads
      (one_if ended read.ends) (failed_reads read.failures result))
  pub within : AreReads most reads result
  pub outcome : HasReadTo ended script bytes result

-- a script wasn't read whole, since reading stopped with this fault
abbrev pub IsUnread : ℕ → Reading → (Reading → Type 0) → PlayFault → Type 0
IsUnread most read is_read fault =
    (bytes : List ℕ) × IsReadWhole most read is_read bytes (Err fault)

-- this many reads were made, and gave these bytes
pub record HasReadSoFar (read : Reading) (is_read : Reading → Type 0) (bytes : List ℕ) (reads : ℕ)
    : Type 0 where
  pub earlier : List ℕ
  pub reader : is_read (after_reads read bytes earlier reads read.ends read.failures)
