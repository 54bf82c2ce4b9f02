-- The lengths of digests, blocks and tags
use Rattle.std.proofs.Common.{◌≡◌, ℕ, ◌≤◌, List, length, lit≤, sym, subst}
use Rattle.std.proofs.lemmas.List.{length-take-le}
use Rattle.sha2.proofs.Facts256.{length-sha224, length-sha256}
use Rattle.sha2.proofs.Facts512.{length-sha384, length-sha512}
use Rattle.ck_types.specs.declared.hashes.Hash.{Hash}
use Rattle.ck_types.specs.declared.hashes.Hash.TheVariants as hash
use Rattle.ck_types.specs.Hashes.{block_length, digest_length}
use Rattle.ck_mac.specs.Computations.{Computation, digest_by, hmac_by, tag_of}
use Rattle.ck_mac.specs.Digests.{digest_of}
use Rattle.ck_mac.specs.Macs.{hmac}
use Rattle.ck_mac.specs.RunningTags.{HoldsMac, HoldsTag, tag_size}
use Rattle.ck_mac.specs.declared.macs.Mac.{Mac}
use Rattle.ck_mac.specs.declared.running_tags.RunningTag.{RunningTag}
use Rattle.ck_mac.specs.declared.running_tags.RunningTag.TheVariants as running_tag

pub length-digest_of : (h : Hash) (message : List ℕ)
    → length (digest_of h message) ≡ digest_length h
length-digest_of hash.Sha224 message = length-sha224 message
length-digest_of hash.Sha256 message = length-sha256 message
length-digest_of hash.Sha384 message = length-sha384 message
length-digest_of hash.Sha512 message = length-sha512 message

-- a digest fits a block
pub digest_length-le-block_length : (h : Hash) → digest_length h ≤ block_length h
digest_length-le-block_length hash.Sha224 = lit≤ tt
digest_length-le-block_length hash.Sha256 = lit≤ tt
digest_length-le-block_length hash.Sha384 = lit≤ tt
digest_length-le-block_length hash.Sha512 = lit≤ tt

-- the longest block has 128 bytes
pub block_length_le_128 : (h : Hash) → block_length h ≤ 128
block_length_le_128 hash.Sha224 = lit≤ tt
block_length_le_128 hash.Sha256 = lit≤ tt
block_length_le_128 hash.Sha384 = lit≤ tt
block_length_le_128 hash.Sha512 = lit≤ tt

-- ---- tags

length-hmac : (h : Hash) (key message : List ℕ) → length (hmac h key message) ≡ digest_length h
unfolding hmac
length-hmac h key message = length-digest_of h _

hmac-fits : (h : Hash) (key : List ℕ) (n : ℕ) (mac : Mac) (message : List ℕ)
    → HoldsMac h key n mac message → n ≤ digest_length h
unfolding HoldsMac
hmac-fits h key n mac message holds = holds.fits

-- the tag of any message by what a running tag computes
pub length-tag_of : (c : Computation) (running : RunningTag) (message : List ℕ)
    → HoldsTag c running message → (other : List ℕ) → length (tag_of c other) ≡ tag_size c
length-tag_of (digest_by h) running message holds other = length-digest_of h other
length-tag_of (hmac_by h key n) (running_tag.Mac mac) message holds other =
    length-take-le n (hmac h key other)
    (subst (λ m. n ≤ m) (sym (length-hmac h key other)) (hmac-fits h key n mac message holds))
length-tag_of (hmac_by h key n) (running_tag.Digest running) message holds other = absurd holds
