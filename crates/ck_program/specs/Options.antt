-- What the program is asked to do by its arguments
use Rattle.std.specs.Prelude.{⊤, ◌≡◌, ◌⊎◌, ◌-◌, ◌&&◌, ℕ, List, [], ◌∷◌, Option, Some, None}
use Rattle.std.specs.Prelude.{Result, Ok, Err, if◌then◌else◌, nat_le, codes}
use Rattle.clap.specs.Words.{App, Rule, Text, IsAmong, fault_of, first_of, matches_of, new_app}
use Rattle.clap.specs.Words.{new_rule, with_rule}
use Rattle.clap.specs.declared.error.kind.ErrorKind.{ErrorKind}
use Rattle.clap.specs.declared.error.kind.ErrorKind.TheVariants as kind
use Rattle.ck_program.specs.declared.faults.ArgumentFault.{ArgumentFault}
use Rattle.ck_program.specs.declared.faults.ArgumentFault.TheVariants as fault
use Rattle.ck_program.specs.declared.options.BadArguments.TheVariants as bad
use Rattle.ck_program.specs.declared.options.Options.{Options}
use Rattle.ck_program.specs.declared.options.Options.TheVariants as option

-- the option `--callers` with one value, and the command that has no other
abbrev pub callers_option : Rule
callers_option = record (new_rule (codes "callers")) {
  long = Some (codes "callers");
  value_names = 1;
}

abbrev pub program : App
program = with_rule (new_app (codes "ck_run")) callers_option

-- a number of callers: one digit from 1 to 8
abbrev pub callers_in : Text → Option ℕ
callers_in (digit ∷ []) = if nat_le 49 digit && nat_le digit 56 then Some (digit - 48) else None
callers_in _ = None

-- the command takes the arguments, of which the first is the program's name; they ask for its help;
-- or it refuses them
abbrev pub AreTaken : List Text → Type 0
AreTaken arguments = fault_of program arguments ≡ []

abbrev pub AskForHelp : List Text → Type 0
AskForHelp arguments = IsAmong kind.DisplayHelp (fault_of program arguments)

abbrev pub AreRefused : List Text → Type 0
AreRefused arguments =
    (k : ErrorKind) × IsAmong k (fault_of program arguments) × (k ≡ kind.DisplayHelp → ⊥)

-- the text that they give the option, where they give it one
abbrev pub callers_text : List Text → Option Text
callers_text arguments = first_of (codes "callers") (matches_of program arguments)

-- without a value the script is played line by line, with a number of callers by these callers in
-- threads, and any other value is bad
abbrev pub IsChosenBy : Option Text → Result Options ArgumentFault → Type 0
IsChosenBy None (Ok option.LineByLine) = ⊤
IsChosenBy (Some text) (Ok (option.InThreads callers)) = callers_in text ≡ Some callers.count
IsChosenBy (Some text) (Err (fault.Bad bad.Callers)) = callers_in text ≡ None
IsChosenBy _ _ = ⊥

abbrev pub IsHelp : Result Options ArgumentFault → Type 0
IsHelp (Ok (option.Help text)) = ⊤
IsHelp _ = ⊥

-- the fault of arguments that the command refuses, with what it says of them
abbrev pub IsRefusal : ArgumentFault → Type 0
IsRefusal (fault.Bad (bad.Refused text)) = ⊤
IsRefusal _ = ⊥

abbrev pub IsRefused : Result Options ArgumentFault → Type 0
IsRefused (Err f) = IsRefusal f
IsRefused _ = ⊥

-- the arguments ask for this, or the answer is that there was no memory, of which nothing more is
-- said
abbrev pub IsAskedBy : List Text → Result Options ArgumentFault → Type 0
IsAskedBy arguments result = (AreTaken arguments × IsChosenBy (callers_text arguments) result)
    ⊎ (AskForHelp arguments × IsHelp result)
    ⊎ (AreRefused arguments × IsRefused result)
    ⊎ (result ≡ Err fault.Memory)
