-- The difference of bytes that are compared pair by pair
use Rattle.std.proofs.Common.{◌≡◌, ℕ, zero, suc, ◌+◌, ◌%◌, ◌<◌, ◌&&◌, ◌==◌, List, [], ◌∷◌, length}
use Rattle.std.proofs.Common.{take, get_or, arith, sym, ap, ◌∙◌, add-one}
use Rattle.std.specs.Prelude.{bit_or, bit_xor}
use Rattle.std.specs.Int.{bit_at}
use Rattle.std.specs.Int.Bits.{or_zero_l, xor_self}
use Rattle.std.proofs.lemmas.Nat.{le_or_l, le_or_r}
use Rattle.std.proofs.lemmas.Nat.Bits.{bit_at_xor, bit_at-zero, bit_at-lt, same_from_bits}
use Rattle.std.proofs.lemmas.Bool.Decides.{nat_tests}
use Rattle.ck_types.specs.Numbers.{same_bytes}

-- two bits whose sum is even are equal
same_bits : (x y : ℕ) → x < 2 → y < 2 → (x + y) % 2 ≡ 0 → x ≡ y
same_bits x y x_is_bit y_is_bit even = omega arith

same_from_xor : (a b : ℕ) → bit_xor a b ≡ 0 → a ≡ b
same_from_xor a b none =
    same_from_bits a b (λ i. same_bits _ _ (bit_at-lt a i) (bit_at-lt b i)
    (sym (bit_at_xor a b i) ∙ (ap (λ n. bit_at n i) none ∙ bit_at-zero i)))

-- no byte differed so far and these two are equal
or-xor : (d a b : ℕ) → (bit_or d (bit_xor a b) == 0) ≡ (d == 0) && (a == b)
or-xor d a b = grind (arith, nat_tests, le_or_l, le_or_r, same_from_xor, xor_self, or_zero_l)

-- one byte more of each
same_bytes-take-suc : (n : ℕ) (left right : List ℕ) → n < length left → n < length right →
    same_bytes (take (suc n) left) (take (suc n) right)
    ≡ same_bytes (take n left) (take n right) && (get_or left n 0 == get_or right n 0)
same_bytes-take-suc zero (x ∷ xs) (y ∷ ys) in_left in_right = grind (arith, nat_tests)
same_bytes-take-suc (suc n) (x ∷ xs) (y ∷ ys) in_left in_right =
    let e = same_bytes-take-suc n xs ys (omega arith) (omega arith) in
    grind (arith, nat_tests)
same_bytes-take-suc n [] right in_left in_right = absurd (omega arith)
same_bytes-take-suc n (x ∷ xs) [] in_left in_right = absurd (omega arith)

-- the difference after one byte more of each
pub same_so_far_more : (left right : List ℕ) (n d : ℕ) → n < length left → n < length right →
    (d == 0) ≡ same_bytes (take n left) (take n right) →
    (bit_or d (bit_xor (get_or left n 0) (get_or right n 0)) == 0)
    ≡ same_bytes (take (n + 1) left) (take (n + 1) right)
same_so_far_more left right n d in_left in_right so_far =
    rw add-one (or-xor d _ _
    ∙ (ap (λ same. same && (get_or left n 0 == get_or right n 0)) so_far
    ∙ sym (same_bytes-take-suc n left right in_left in_right)))
