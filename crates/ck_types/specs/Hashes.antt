-- The hash functions (FIPS 180-4, figure 1)
use Rattle.std.specs.Prelude.{ℕ}
use Rattle.ck_types.specs.declared.hashes.Hash.{Hash}
use Rattle.ck_types.specs.declared.hashes.Hash.TheVariants as hash

-- the length of a digest in bytes
abbrev pub digest_length : Hash → ℕ
digest_length hash.Sha224 = 28
digest_length hash.Sha256 = 32
digest_length hash.Sha384 = 48
digest_length hash.Sha512 = 64

-- the length of a block in bytes
abbrev pub block_length : Hash → ℕ
block_length hash.Sha224 = 64
block_length hash.Sha256 = 64
block_length hash.Sha384 = 128
block_length hash.Sha512 = 128
