use Rattle.std.proofs.Common.{◌≡◌, rules, arith, length}
use Rattle.std.proofs.lemmas.Nat.{le_bytes_8}
use Rattle.std.specs.Int.{w64, from_le_bytes}
use Rattle.ck_types.proofs.numbers.number_from_bytes.Goals as goal

-- the bytes that a number is read from are its bytes
pub returns-clause-bytes : goal.returns-clause-bytes
returns-clause-bytes c =
    let fits : length c.args.bytes.now ≡ 8 = search rules in
    let read : c.from_le_bytes.result ≡ from_le_bytes w64 c.args.bytes.now = search rules in
    le_bytes_8 c.args.bytes.now c.from_le_bytes.result fits
    (λ i. omega (arith, c.type_inv.bytes i)) read
