-- How the code finds which code is answered to the queries of one C_GetAttributeValue call. This
-- mirrors the code; the definition is `queries_code` of ck_journal.
use Rattle.std.specs.Prelude.{ℕ, nat_lt, if◌then◌else◌}
use Rattle.ck_types.specs.declared.return_codes.Rv.{Rv}
use Rattle.ck_types.specs.declared.return_codes.Rv.TheVariants as rv
use Rattle.ck_types.specs.declared.errors.RvError.TheVariants as rv_error

-- the rank of a query's code: a hidden value ranks above a missing attribute, and that above too
-- little room
abbrev pub rank : Rv → ℕ
rank rv.Ok = 0
rank (rv.Error rv_error.BufferTooSmall) = 1
rank (rv.Error rv_error.AttributeTypeInvalid) = 2
rank (rv.Error other) = 3

-- the code of the higher rank
abbrev pub higher : Rv → Rv → Rv
higher one other = if nat_lt (rank one) (rank other) then other else one
