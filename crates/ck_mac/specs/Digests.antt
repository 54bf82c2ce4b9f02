-- Digests (FIPS 180-4)
use Rattle.std.specs.Prelude.{ℕ, List}
use Rattle.sha2.specs.Sha256.{sha224, sha256}
use Rattle.sha2.specs.Sha512.{sha384, sha512}
use Rattle.ck_types.specs.declared.hashes.Hash.{Hash}
use Rattle.ck_types.specs.declared.hashes.Hash.TheVariants as hash

-- the digest of a message
abbrev pub digest_of : Hash → List ℕ → List ℕ
digest_of hash.Sha224 message = sha224 message
digest_of hash.Sha256 message = sha256 message
digest_of hash.Sha384 message = sha384 message
digest_of hash.Sha512 message = sha512 message
