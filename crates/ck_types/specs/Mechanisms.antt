-- The mechanisms that the token has (PKCS #11 Current Mechanisms 3.0, SHA-224 to SHA-512 and
-- Generic secret key)
use Rattle.std.specs.Prelude.{ℕ, Bool, true, false, List, [], ◌∷◌, Option, Some, None, ◌==◌, ◌&&◌}
use Rattle.std.specs.Prelude.{nat_le, length, find, map, option_map, option_and_then}
use Rattle.std.specs.Prelude.{if◌then◌else◌}
use Rattle.std.specs.Option.{option_map_or}
use Rattle.std.specs.Int.{w64, from_le_bytes}
use Rattle.ck_types.specs.Hashes.{digest_length}
use Rattle.ck_types.specs.declared.hashes.Hash.{Hash}
use Rattle.ck_types.specs.declared.hashes.Hash.TheVariants as hash
use Rattle.ck_types.specs.declared.mechanisms.Algorithm.{Algorithm}
use Rattle.ck_types.specs.declared.mechanisms.Algorithm.TheVariants as algorithm
use Rattle.ck_types.specs.declared.mechanisms.Mechanism.{Mechanism}

-- each line: a mechanism's type, what it computes; by ascending type
abbrev pub mechanisms : List (ℕ × Algorithm)
mechanisms =
    (0x250, algorithm.Digest hash.Sha256)
    ∷ (0x251, algorithm.Hmac hash.Sha256)
    ∷ (0x252, algorithm.GeneralHmac hash.Sha256)
    ∷ (0x255, algorithm.Digest hash.Sha224)
    ∷ (0x256, algorithm.Hmac hash.Sha224)
    ∷ (0x257, algorithm.GeneralHmac hash.Sha224)
    ∷ (0x260, algorithm.Digest hash.Sha384)
    ∷ (0x261, algorithm.Hmac hash.Sha384)
    ∷ (0x262, algorithm.GeneralHmac hash.Sha384)
    ∷ (0x270, algorithm.Digest hash.Sha512)
    ∷ (0x271, algorithm.Hmac hash.Sha512)
    ∷ (0x272, algorithm.GeneralHmac hash.Sha512)
    ∷ (0x350, algorithm.GenericSecretKey)
    ∷ []

-- the types of all mechanisms
abbrev pub mechanism_types : List ℕ
mechanism_types = map (λ (row : ℕ × Algorithm). row.0) mechanisms

-- what the mechanism of this type computes, where the token has it
abbrev pub algorithm_of : ℕ → Option Algorithm
algorithm_of kind =
    option_map (λ (row : ℕ × Algorithm). row.1)
    (find (λ (row : ℕ × Algorithm). row.0 == kind) mechanisms)

abbrev pub hash_of_digest : Algorithm → Option Hash
hash_of_digest (algorithm.Digest h) = Some h
hash_of_digest other = None

abbrev pub hash_of_hmac : Algorithm → Option Hash
hash_of_hmac (algorithm.Hmac h) = Some h
hash_of_hmac (algorithm.GeneralHmac h) = Some h
hash_of_hmac other = None

abbrev pub generates : Algorithm → Bool
generates algorithm.GenericSecretKey = true
generates other = false

-- the hash function of the mechanism of this type, where it computes a digest
abbrev pub digest_hash : ℕ → Option Hash
digest_hash kind = option_and_then hash_of_digest (algorithm_of kind)

-- the hash function of the mechanism of this type, where it computes an HMAC, whole or its first
-- bytes
abbrev pub hmac_hash : ℕ → Option Hash
hmac_hash kind = option_and_then hash_of_hmac (algorithm_of kind)

-- the mechanism of this type generates keys
abbrev pub is_key_generator : ℕ → Bool
is_key_generator kind = option_map_or generates (algorithm_of kind) false

-- ---- how long a tag is

-- the length in bytes that a parameter gives (CK_MAC_GENERAL_PARAMS): 8 bytes, the least
-- significant first, from 1 to the digest's length
abbrev pub given_tag_length : Hash → List ℕ → Option ℕ
given_tag_length h parameter =
    let n = from_le_bytes w64 parameter in
    if length parameter == 8 && nat_le 1 n && nat_le n (digest_length h) then Some n else None

-- the length in bytes of the tag that the algorithm computes with this parameter, or None where it
-- computes no tag or the parameter isn't valid. A whole HMAC has no parameter; that of a general
-- HMAC is the length.
abbrev pub tag_length_of : Algorithm → List ℕ → Option ℕ
tag_length_of (algorithm.Hmac h) parameter =
    if length parameter == 0 then Some (digest_length h) else None
tag_length_of (algorithm.GeneralHmac h) parameter = given_tag_length h parameter
tag_length_of other parameter = None

-- the length in bytes of the mechanism's tag, where it computes one and its parameter is valid
abbrev pub tag_length : Mechanism → Option ℕ
tag_length mechanism =
    option_and_then (λ a. tag_length_of a mechanism.parameter) (algorithm_of mechanism.kind)
