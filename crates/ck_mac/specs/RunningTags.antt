-- What running digests, HMACs and tags have taken in of messages that come in pieces, and how long
-- tags are. The answers to calls aren't defined by these.
use Rattle.std.specs.Prelude.{◌≡◌, ℕ, ◌≤◌, List, ◌++◌}
use Rattle.sha2.specs.Hashers.{Holds224, Holds256, Holds384, Holds512}
use Rattle.ck_types.specs.Hashes.{digest_length}
use Rattle.ck_types.specs.declared.hashes.Hash.{Hash}
use Rattle.ck_types.specs.declared.hashes.Hash.TheVariants as hash
use Rattle.ck_mac.specs.Computations.{Computation, digest_by, hmac_by}
use Rattle.ck_mac.specs.Macs.{inner_key, outer_key}
use Rattle.ck_mac.specs.declared.digests.Hasher.{Hasher}
use Rattle.ck_mac.specs.declared.digests.Hasher.TheVariants as hasher
use Rattle.ck_mac.specs.declared.digests.Running.{Running}
use Rattle.ck_mac.specs.declared.macs.Mac.{Mac}
use Rattle.ck_mac.specs.declared.running_tags.RunningTag.{RunningTag}
use Rattle.ck_mac.specs.declared.running_tags.RunningTag.TheVariants as running_tag

-- the hasher is of this hash function and has taken in the message
abbrev pub HasherHolds : Hash → Hasher → List ℕ → Type 0
HasherHolds hash.Sha224 (hasher.Sha224 s) message = Holds224 s message
HasherHolds hash.Sha256 (hasher.Sha256 s) message = Holds256 s message
HasherHolds hash.Sha384 (hasher.Sha384 s) message = Holds384 s message
HasherHolds hash.Sha512 (hasher.Sha512 s) message = Holds512 s message
HasherHolds other hasher message = ⊥

-- the running digest is of this hash function and has taken in the message
abbrev pub Holds : Hash → Running → List ℕ → Type 0
Holds h running message = HasherHolds h running.hasher message

-- the inner digest has taken in the inner key and the message, the outer digest the outer key, and
-- the tag is no longer than a digest
pub record TakesIn (h : Hash) (key : List ℕ) (n : ℕ) (mac : Mac) (message : List ℕ) : Type 0 where
  pub inner : Holds h mac.inner (inner_key h key ++ message)
  pub outer : Holds h mac.outer (outer_key h key)
  pub len : mac.len ≡ n
  pub fits : n ≤ digest_length h

-- the running HMAC is of this hash function and key, its tag has n bytes, and it has taken in the
-- message. Proofs of callers see it as one fact.
unfoldable pub HoldsMac : Hash → List ℕ → ℕ → Mac → List ℕ → Type 0
HoldsMac h key n mac message = TakesIn h key n mac message

-- the running tag is of this computation and has taken in the message
abbrev pub HoldsTag : Computation → RunningTag → List ℕ → Type 0
HoldsTag (digest_by hash) (running_tag.Digest running) message = Holds hash running message
HoldsTag (hmac_by hash key n) (running_tag.Mac mac) message = HoldsMac hash key n mac message
HoldsTag computation running message = ⊥

-- how many bytes the tag of a computation has
abbrev pub tag_size : Computation → ℕ
tag_size (digest_by hash) = digest_length hash
tag_size (hmac_by hash key n) = n
