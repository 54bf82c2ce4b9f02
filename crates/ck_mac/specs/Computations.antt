-- What an operation computes of its message: a digest, or the first bytes of an HMAC under a key
use Rattle.std.specs.Prelude.{ℕ, List, take}
use Rattle.ck_types.specs.declared.hashes.Hash.{Hash}
use Rattle.ck_mac.specs.Digests.{digest_of}
use Rattle.ck_mac.specs.Macs.{hmac}

-- the digest by a hash function; the HMAC by a hash function under a key, as a tag of n bytes
pub data Computation : Type 0 where
  digest_by : Hash → Computation
  hmac_by : Hash → List ℕ → ℕ → Computation

-- the tag of a message: its digest, or the first bytes of its HMAC
abbrev pub tag_of : Computation → List ℕ → List ℕ
tag_of (digest_by hash) message = digest_of hash message
tag_of (hmac_by hash key n) message = take n (hmac hash key message)
