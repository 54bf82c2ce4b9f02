-- An attribute's value as an object keeps it. This mirrors the code.
use Rattle.std.specs.Prelude.{ℕ, Bool, List, Option, Some, None}
use Rattle.ck_types.specs.Numbers.{number_bytes}
use Rattle.ck_objects.specs.Attributes.{flag_bytes}
use Rattle.ck_objects.specs.declared.fields.Field.{Field}
use Rattle.ck_objects.specs.declared.fields.Field.TheVariants as field

-- its bytes
abbrev pub field_bytes : Field → List ℕ
field_bytes (field.Flag flag) = flag_bytes flag
field_bytes (field.Number number) = number_bytes number
field_bytes (field.Bytes bytes) = bytes.now

-- the flag, where it is one
abbrev pub flag_field : Option Field → Option Bool
flag_field (Some (field.Flag flag)) = Some flag
flag_field other = None
