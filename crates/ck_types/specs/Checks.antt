-- Checks that are made in order: each finds an error or none
use Rattle.std.specs.Prelude.{Bool, true, false, List, [], ◌∷◌, Option, Some, None, Result, Ok, Err}
use Rattle.ck_types.specs.declared.errors.RvError.{RvError}

-- the error, where the test is true
abbrev pub error_if : Bool → RvError → Option RvError
error_if false error = None
error_if true error = Some error

-- the error of the first check, else that of the second
abbrev pub or_else : Option RvError → Option RvError → Option RvError
or_else None later = later
or_else (Some error) later = Some error

-- the error of the first check that fails
abbrev pub first_of : List (Option RvError) → Option RvError
first_of [] = None
first_of (check ∷ checks) = or_else check (first_of checks)

-- the error of the first item that a check refuses
abbrev pub first_error : {A : Type 0} → (A → Option RvError) → List A → Option RvError
first_error check [] = None
first_error check (item ∷ items) = or_else (check item) (first_error check items)

-- the result of a check: Err with its error, or Ok where it finds none
abbrev pub check_of : Option RvError → Result (Unit {0}) RvError
check_of None = Ok tt
check_of (Some error) = Err error
