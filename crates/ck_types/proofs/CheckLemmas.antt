-- Checks that find no error
use Rattle.std.proofs.Common.{◌≡◌, Bool, true, false, Option, Some, None, Ok, Err}
use Rattle.std.proofs.Common.{refl, drop-cons}
use Rattle.std.proofs.lemmas.Grind.{common_steps}
use Rattle.std.specs.Result.{result_and}
use Rattle.ck_types.specs.Checks.{error_if, or_else, check_of}
use Rattle.ck_types.specs.declared.errors.RvError.{RvError}

-- where neither of two checks finds an error
pub or_else-none : (first later : Option RvError) → or_else first later ≡ None
    → (first ≡ None) × (later ≡ None)
or_else-none None later e = (refl, e)
or_else-none (Some error) later e = cc

pub error_if-none : (test : Bool) (error : RvError) → error_if test error ≡ None → test ≡ false
error_if-none false error e = refl
error_if-none true error e = cc

-- a check that answers Ok finds no error
pub check_of-ok : (check : Option RvError) (u : Unit {0}) → check_of check ≡ Ok u → check ≡ None
check_of-ok None u e = refl
check_of-ok (Some error) u e = cc

-- the error that a check answers
pub check_of-err : (check : Option RvError) (error : RvError) → check_of check ≡ Err error
    → check ≡ Some error
check_of-err None error e = cc
check_of-err (Some found) error e = cc

-- two checks in order answer as the first, or where that is Ok as the second
pub check_of-or_else : (first later : Option RvError)
    → check_of (or_else first later) ≡ result_and (check_of first) (check_of later)
check_of-or_else None later = refl
check_of-or_else (Some error) later = refl

-- for functions whose checks stand one after the other
pub ruleset checks = (check_of-or_else)

-- for loops whose checks do
pub ruleset item_checks = (check_of-or_else, drop-cons, common_steps)
