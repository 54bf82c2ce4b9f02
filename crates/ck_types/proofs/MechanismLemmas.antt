-- How long the tags are that mechanisms with good parameters compute
use Rattle.std.proofs.Common.{◌≡◌, ℕ, ◌≤◌, Bool, true, false, cond, ◌&&◌, Option, Some, None}
use Rattle.std.proofs.Common.{length, refl, sym, subst, arith}
use Rattle.std.specs.Prelude.{◌==◌, nat_le, option_and_then}
use Rattle.std.specs.Int.{w64, from_le_bytes}
use Rattle.std.proofs.lemmas.Bool.{leb-true}
use Rattle.std.proofs.lemmas.Option.{same_Some}
use Rattle.ck_types.specs.Hashes.{digest_length}
use Rattle.ck_types.specs.Mechanisms.{algorithm_of, hash_of_hmac, hmac_hash, tag_length}
use Rattle.ck_types.specs.Mechanisms.{tag_length_of}
use Rattle.ck_types.specs.declared.hashes.Hash.{Hash}
use Rattle.ck_types.specs.declared.hashes.Hash.TheVariants as hash
use Rattle.ck_types.specs.declared.mechanisms.Algorithm.{Algorithm}
use Rattle.ck_types.specs.declared.mechanisms.Algorithm.TheVariants as algorithm
use Rattle.ck_types.specs.declared.mechanisms.Mechanism.{Mechanism}

some_length : (h : Hash) → 1 ≤ digest_length h
some_length hash.Sha224 = omega arith
some_length hash.Sha256 = omega arith
some_length hash.Sha384 = omega arith
some_length hash.Sha512 = omega arith

-- the length is within 1 and that of the hash function's digest
pub tag_length-bounds : (mechanism : Mechanism) (h : Hash) (n : ℕ)
    → hmac_hash mechanism.kind ≡ Some h
    → tag_length mechanism ≡ Some n → (1 ≤ n) × (n ≤ digest_length h)
tag_length-bounds mechanism h n known sized = cases (algorithm_of mechanism.kind) known sized
  where
    whole : (t : Bool) (m : ℕ) → cond t (Some m) None ≡ Some n → m ≡ n
    whole true m e = same_Some m n e
    whole false m e = cc

    within : (a b d : Bool) (m : ℕ) → (b ≡ true → 1 ≤ m) → (d ≡ true → m ≤ digest_length h)
        → cond (a && b && d) (Some m) None ≡ Some n → (1 ≤ n) × (n ≤ digest_length h)
    within true true true m least most e =
        let same = same_Some m n e in
        (subst (λ m. 1 ≤ m) same (least refl), subst (λ m. m ≤ digest_length h) same (most refl))
    within true true false m least most e = cc
    within true false d m least most e = cc
    within false b d m least most e = cc

    cases : (a : Option Algorithm) → option_and_then hash_of_hmac a ≡ Some h
        → option_and_then (λ x. tag_length_of x mechanism.parameter) a ≡ Some n
        → (1 ≤ n) × (n ≤ digest_length h)
    cases None known sized = cc
    cases (Some (algorithm.Digest g)) known sized = cc
    cases (Some (algorithm.Hmac g)) known sized =
        let same = same_Some g h known in
        let is = whole (length mechanism.parameter == 0) (digest_length g) sized in (
          subst (λ m. 1 ≤ m) is (some_length g),
          subst (λ m. m ≤ digest_length h) is
              (subst (λ g. digest_length g ≤ digest_length h) (sym same) (omega arith)),
        )
    cases (Some (algorithm.GeneralHmac g)) known sized =
        let same = same_Some g h known in
        let m = from_le_bytes w64 mechanism.parameter in
        within (length mechanism.parameter == 8) (nat_le 1 m) (nat_le m (digest_length g)) m
        (λ t. leb-true 1 m t)
        (λ t. subst (λ g. m ≤ digest_length g) same (leb-true m (digest_length g) t)) sized
    cases (Some algorithm.GenericSecretKey) known sized = cc
