-- The key as one block
use Rattle.std.proofs.Common.{◌≡◌, ℕ, ◌+◌, ◌-◌, ◌<◌, ◌≤◌, List, ◌++◌, length, take, arith, ap, sym}
use Rattle.std.proofs.Common.{◌∙◌}
use Rattle.std.specs.Prelude.{replicate}
use Rattle.std.proofs.lemmas.List.{append_assoc, length-append, length-replicate}
use Rattle.std.proofs.lemmas.List.{replicate-append-replicate, take_at}
use Rattle.std.proofs.lemmas.Bool.Decides.{nat_tests}
use Rattle.ck_types.specs.declared.hashes.Hash.{Hash}
use Rattle.ck_types.specs.Hashes.{block_length}
use Rattle.ck_mac.specs.Digests.{digest_of}
use Rattle.ck_mac.specs.Macs.{block_key}
use Rattle.ck_mac.specs.Padding.{with_zeros}
use Rattle.ck_mac.proofs.LengthLemmas.{length-digest_of, digest_length-le-block_length}
use Rattle.ck_mac.proofs.LengthLemmas.{block_length_le_128}

-- the first n bytes of one that is followed by more zeros
pub take-with_zeros : (n m : ℕ) (bytes : List ℕ) → length bytes ≤ n → n ≤ m →
    take n (with_zeros m bytes) ≡ with_zeros n bytes
take-with_zeros n m bytes short within =
    let split : replicate {A = ℕ} (m - length bytes) 0
    ≡ replicate (n - length bytes) 0 ++ replicate (m - n) 0 =
    ap (λ k. replicate {A = ℕ} k 0)
    (let e : m - length bytes ≡ (n - length bytes) + (m - n) = omega arith in e)
    ∙ sym (replicate-append-replicate (n - length bytes) (m - n) 0) in
    let long : length (with_zeros n bytes) ≡ n =
    omega (arith, length-append bytes (replicate (n - length bytes) 0), length-replicate {A = ℕ}) in
    rw split (rw (← append_assoc) (take_at (with_zeros n bytes) (replicate (m - n) 0) n long))

-- a key that fits a block
pub take_short_key : (h : Hash) (key : List ℕ) → length key ≤ block_length h →
    take (block_length h) (with_zeros 128 key) ≡ block_key h key
unfolding block_key
take_short_key h key short =
    let e = take-with_zeros (block_length h) 128 key short (block_length_le_128 h) in
    grind (arith, nat_tests)

-- a longer key
pub take_long_key : (h : Hash) (key : List ℕ) → block_length h < length key →
    take (block_length h) (with_zeros 128 (digest_of h key)) ≡ block_key h key
unfolding block_key
take_long_key h key long =
    let fits : length (digest_of h key) ≤ block_length h =
    omega (arith, length-digest_of h key, digest_length-le-block_length h) in
    let e = take-with_zeros (block_length h) 128 (digest_of h key) fits (block_length_le_128 h) in
    grind (arith, nat_tests)

-- for the function that makes the block
pub ruleset key_blocks = (take_short_key, take_long_key)
