-- The statuses with which the program ends after a fault
use Rattle.std.specs.Prelude.{ℕ}
use Rattle.ck_plays.specs.declared.faults.PlayFault.{PlayFault}
use Rattle.ck_plays.specs.declared.faults.PlayFault.TheVariants as fault

abbrev pub status_of : PlayFault → ℕ
status_of (fault.Line number reason) = 1
status_of fault.Read = 3
status_of fault.Write = 3
status_of fault.Memory = 3
status_of fault.Turns = 3
