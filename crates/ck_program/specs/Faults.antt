-- The faults of the program, and the statuses with which it ends after them
use Rattle.std.specs.Prelude.{ℕ, Result, Ok, Err}
use Rattle.ck_plays.specs.Faults as plays
use Rattle.ck_plays.specs.declared.faults.PlayFault.{PlayFault}
use Rattle.ck_plays.specs.declared.faults.PlayFault.TheVariants as play
use Rattle.ck_program.specs.declared.faults.ArgumentFault.{ArgumentFault}
use Rattle.ck_program.specs.declared.faults.ArgumentFault.TheVariants as argument
use Rattle.ck_program.specs.declared.faults.ProgramFault.{ProgramFault}
use Rattle.ck_program.specs.declared.faults.ProgramFault.TheVariants as fault
use Rattle.ck_program.specs.declared.faults.ThreadFault.{ThreadFault}
use Rattle.ck_program.specs.declared.faults.ThreadFault.TheVariants as threads

abbrev pub program_status_of : ProgramFault → ℕ
program_status_of (fault.Play f) = plays.status_of f
program_status_of fault.Thread = 3

-- the status where there are no options
abbrev pub argument_status_of : ArgumentFault → ℕ
argument_status_of (argument.Bad reason) = 2
argument_status_of argument.Memory = 3

-- what threads stopped at, as a fault of the program
abbrev pub of_threads : ThreadFault → ProgramFault
of_threads threads.Memory = fault.Play play.Memory
of_threads threads.NotStarted = fault.Thread

-- it ends well or with a fault of playing, of which P is so, and not for want of a thread
abbrev pub EndsWithoutThreads : (Result (Unit {0}) PlayFault → Type 0)
    → Result (Unit {0}) ProgramFault → Type 0
EndsWithoutThreads P (Ok u) = P (Ok u)
EndsWithoutThreads P (Err (fault.Play f)) = P (Err f)
EndsWithoutThreads P (Err fault.Thread) = ⊥
