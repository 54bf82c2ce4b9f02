use Rattle.std.proofs.Common.{ℕ, List, Option, Some, None, ◌≡◌, sym, ap, ◌∙◌}
use Rattle.std.specs.Prelude.{option_map, IfSome}
use Rattle.std.specs.Int.{w64, from_le_bytes}
use Rattle.ck_types.specs.Numbers.{number_bytes}
use Rattle.ck_objects.proofs.GivenLemmas.{number-given}
use Rattle.ck_objects.proofs.items.number_at.Goals as goal

-- a given value of the form of a number has 8 bytes
pub returns-clause-number : goal.returns-clause-number
returns-clause-number c =
    let read = rw c.as_slice.ensures at c.number_from_bytes.ensures.number in
    let given = number-given c.args.items.now c.args.attribute _ c.in_ok-value_at.field-0.now
    c.number_from_bytes.result c.requires.form c.requires.well_formed c.in_ok-value_at.ensures
    c.number.ensures read in
    given.0 ∙ sym (ap (option_map (from_le_bytes w64)) given.2)

bytes-some : (o : Option ℕ) (value : List ℕ) → IfSome o (λ n. number_bytes n ≡ value)
    → IfSome o (λ n. Some value ≡ Some (number_bytes n))
bytes-some None value h = h
bytes-some (Some n) value h = ap (λ v. Some v) (sym h)

-- its bytes are those of the number
pub returns-clause-bytes : goal.returns-clause-bytes
returns-clause-bytes c =
    let bytes = rw c.as_slice.ensures at c.number_from_bytes.ensures.bytes in
    let read = rw c.as_slice.ensures at c.number_from_bytes.ensures.number in
    let given = number-given c.args.items.now c.args.attribute _ c.in_ok-value_at.field-0.now
    c.number_from_bytes.result c.requires.form c.requires.well_formed c.in_ok-value_at.ensures
    c.number.ensures read in
    rw given.2 (bytes-some c.number_from_bytes.result c.in_ok-value_at.field-0.now bytes)
