-- A flag and its bytes
use Rattle.std.proofs.Common.{◌≡◌, Bool, true, false, refl}
use Rattle.ck_types.specs.Numbers.{same_bytes}
use Rattle.ck_objects.specs.Attributes.{flag_bytes}

-- a flag's bytes tell the flag
pub same_bytes-flag_bytes : (flag : Bool) → same_bytes (flag_bytes flag) (flag_bytes true) ≡ flag
same_bytes-flag_bytes true = refl
same_bytes-flag_bytes false = refl

pub ruleset flags = (same_bytes-flag_bytes)
