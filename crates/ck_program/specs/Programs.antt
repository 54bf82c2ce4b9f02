-- What the program does by its options with its reader and its writer
use Rattle.std.specs.Prelude.{◌≡◌, ◌⊎◌, ◌^◌, ◌-◌, ℕ, List, Result, Ok, Err, string_bytes}
use Rattle.ck_types.specs.TokenLimits.{Ranges}
use Rattle.ck_plays.specs.Devices.{Reading, Writing, wrote}
use Rattle.ck_plays.specs.Players.{WriteFailed}
use Rattle.ck_plays.specs.Plays.{IsPlayed, most_reads}
use Rattle.ck_plays.specs.declared.faults.PlayFault.{PlayFault}
use Rattle.ck_plays.specs.declared.faults.PlayFault.TheVariants as fault
use Rattle.ck_program.specs.Faults.{EndsWithoutThreads}
use Rattle.ck_program.specs.ThreadPlays.{IsPlayedInThreads}
use Rattle.ck_program.specs.declared.faults.ProgramFault.{ProgramFault}
use Rattle.ck_program.specs.declared.faults.ArgumentFault.{ArgumentFault}
use Rattle.ck_program.specs.declared.faults.ArgumentFault.TheVariants as argument
use Rattle.ck_program.specs.declared.options.BadArguments.{BadArguments}
use Rattle.ck_program.specs.declared.options.Options.{Options}
use Rattle.ck_program.specs.declared.options.Options.TheVariants as option

abbrev pub largest_limits : Ranges
largest_limits = record {
  sessions = 64;
  openings = 2 ^ 32 - 1;
  creations = 2 ^ 32 - 1;
  logins = 2 ^ 31 - 1;
}

-- the status with which the program ends: where all is done, at a bad line, by bad arguments, and
-- after another fault
abbrev pub IsStatus : ℕ → Type 0
IsStatus status = (status ≡ 0) ⊎ (status ≡ 1) ⊎ (status ≡ 2) ⊎ (status ≡ 3)

-- the arguments are bad, whatever the reason
abbrev pub AreBad : Result Options ArgumentFault → Type 0
AreBad options = (reason : BadArguments) × (options ≡ Err (argument.Bad reason))

-- a text is written, or the writer failed behind a beginning of it
abbrev pub IsWritten : List ℕ → Writing → (Writing → Type 0) → Result (Unit {0}) PlayFault → Type 0
IsWritten text written is_written (Ok u) = is_written (wrote written text)
IsWritten text written is_written (Err f) =
    (f ≡ fault.Write) × WriteFailed is_written written text

-- a script is played, and no help is asked for
abbrev pub IsPlay : Options → Type 0
IsPlay option.LineByLine = Unit {0}
IsPlay (option.InThreads callers) = Unit {0}
IsPlay (option.Help text) = ⊥

-- what was read and written by these options, and how that ended
abbrev pub IsCarriedOut : Options → Reading → Writing → (Reading → Type 0) → (Writing → Type 0)
    → Result (Unit {0}) ProgramFault → Type 0
IsCarriedOut option.LineByLine read written is_read is_written result =
    EndsWithoutThreads (IsPlayed largest_limits most_reads read written is_read is_written) result
IsCarriedOut (option.InThreads callers) read written is_read is_written result =
    IsPlayedInThreads largest_limits callers.count most_reads read written is_read is_written result
IsCarriedOut (option.Help text) read written is_read is_written result =
    is_read read × EndsWithoutThreads (IsWritten (string_bytes text) written is_written) result
