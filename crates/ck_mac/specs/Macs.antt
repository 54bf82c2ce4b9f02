-- The keyed-hash message authentication code (HMAC, FIPS 198-1)
use Rattle.std.specs.Prelude.{ℕ, List, ◌++◌, Option, Some, None, ◌==◌}
use Rattle.std.specs.Prelude.{nat_le, if◌then◌else◌, length, map, bit_xor}
use Rattle.ck_types.specs.Numbers.{same_bytes}
use Rattle.ck_types.specs.Hashes.{block_length}
use Rattle.ck_types.specs.declared.hashes.Hash.{Hash}
use Rattle.ck_types.specs.declared.errors.RvError.{RvError}
use Rattle.ck_types.specs.declared.errors.RvError.TheVariants as rv_error
use Rattle.ck_mac.specs.Digests.{digest_of}
use Rattle.ck_mac.specs.Padding.{with_zeros}

-- the key, or its digest where it is longer than a block, followed by zeros up to the block (K0;
-- FIPS 198-1, section 4, steps 1 to 3)
unfoldable pub block_key : Hash → List ℕ → List ℕ
block_key h key =
    with_zeros (block_length h)
    (if nat_le (length key) (block_length h) then key else digest_of h key)

-- each byte combined with the pad by exclusive or
abbrev pub xor_each : ℕ → List ℕ → List ℕ
xor_each pad bytes = map (λ byte. bit_xor byte pad) bytes

-- what the messages of the inner and of the outer digest begin with
abbrev pub inner_key : Hash → List ℕ → List ℕ
inner_key h key = xor_each 0x36 (block_key h key)

abbrev pub outer_key : Hash → List ℕ → List ℕ
outer_key h key = xor_each 0x5c (block_key h key)

-- H((K0 xor opad) || H((K0 xor ipad) || message)) (FIPS 198-1, section 4)
unfoldable pub hmac : Hash → List ℕ → List ℕ → List ℕ
hmac h key message = digest_of h (outer_key h key ++ digest_of h (inner_key h key ++ message))

-- the error of a signature that is checked against a tag: by its length first, then by its bytes
abbrev pub signature_error : List ℕ → List ℕ → Option RvError
signature_error tag signature =
    if length signature == length tag
    then (if same_bytes signature tag then None else Some rv_error.SignatureInvalid)
    else Some rv_error.SignatureLenRange
