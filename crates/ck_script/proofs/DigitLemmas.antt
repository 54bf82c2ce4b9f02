-- The digits of numbers and of bytes
use Rattle.std.proofs.Common.{◌≡◌, ℕ, ◌+◌, ◌<◌, true, false, List, [], ◌∷◌, length, arith}
use Rattle.std.proofs.Common.{Option, Some, None, Ok, Err, refl, ◌∙◌}
use Rattle.std.specs.Prelude.{◌%◌, ◌==◌, ◌≢◌, ◌&&◌, is_some, Result}
use Rattle.std.specs.Char.{digit_value, is_ascii_digit, is_ascii_hexdigit}
use Rattle.std.specs.List.{list_all}
use Rattle.std.specs.Result.{result_ok}
use Rattle.std.specs.Str.Parse.{AllDigits}
use Rattle.std.proofs.lemmas.Bool.{and_parts}
use Rattle.std.proofs.lemmas.Str.{IsUtf8-from_ascii}
use Rattle.std.proofs.lemmas.Bool.Decides.{nat_tests}
use Rattle.hex.specs.Hex.{hex_digit_value, pair_value, decode_pairs, decode_of, ◌>>=◌}
use Rattle.hex.specs.declared.error.FromHexError.{FromHexError}
use Rattle.ck_script.specs.Arguments.{is_code_digit}

digit_value-decimal : (c : ℕ) → is_ascii_digit c ≡ true → digit_value c < 10
digit_value-decimal c e = grind (arith, nat_tests)

digit_value-code : (c : ℕ) → is_code_digit c ≡ true → digit_value c < 16
digit_value-code c e = grind (arith, nat_tests)

pub AllDigits-decimal : (text : List ℕ) → list_all is_ascii_digit text ≡ true → AllDigits 10 text
AllDigits-decimal [] e = tt
AllDigits-decimal (c ∷ cs) e =
    let both = and_parts (is_ascii_digit c) (list_all is_ascii_digit cs) e in
    (digit_value-decimal c both.0, AllDigits-decimal cs both.1)

pub AllDigits-code : (text : List ℕ) → list_all is_code_digit text ≡ true → AllDigits 16 text
AllDigits-code [] e = tt
AllDigits-code (c ∷ cs) e =
    let both = and_parts (is_code_digit c) (list_all is_code_digit cs) e in
    (digit_value-code c both.0, AllDigits-code cs both.1)

pub ruleset digits = (AllDigits-decimal, AllDigits-code, IsUtf8-from_ascii)

-- ---- the digits of bytes: an even number of them is decoded where all are hexadecimal

is_some-hex_digit_value : (c : ℕ) → is_some (hex_digit_value c) ≡ is_ascii_hexdigit c
is_some-hex_digit_value c = grind (arith, nat_tests)

is_some-pair : (high low i : ℕ) (h l : Option ℕ) (rest : Result (List ℕ) FromHexError)
    → hex_digit_value high ≡ h → hex_digit_value low ≡ l
    → is_some (result_ok
    (pair_value high low i >>= (λ byte. rest >>= (λ bytes. Ok (byte ∷ bytes)))))
    ≡ (is_some h && (is_some l && is_some (result_ok rest)))
is_some-pair high low i None l rest e f = rw e refl
is_some-pair high low i (Some h) None rest e f = rw (e, f) refl
is_some-pair high low i (Some h) (Some l) (Ok bytes) e f = rw (e, f) refl
is_some-pair high low i (Some h) (Some l) (Err error) e f = rw (e, f) refl

is_some-decode_pairs : (i : ℕ) (text : List ℕ) → length text % 2 ≢ 1
    → is_some (result_ok (decode_pairs i text)) ≡ list_all is_ascii_hexdigit text
unfolding decode_pairs
is_some-decode_pairs i [] even = refl
is_some-decode_pairs i (digit ∷ []) even = absurd (even refl)
is_some-decode_pairs i (high ∷ low ∷ rest) even =
    let even_rest : length rest % 2 ≢ 1 = λ odd. even (omega arith) in
    rw (
      ← is_some-hex_digit_value high,
      ← is_some-hex_digit_value low,
      ← is_some-decode_pairs (i + 2) rest even_rest,
    )
    (is_some-pair high low i _ _ (decode_pairs (i + 2) rest) refl refl)

pub is_some-decode_of : (text : List ℕ) → length text % 2 ≢ 1
    → is_some (result_ok (decode_of text)) ≡ list_all is_ascii_hexdigit text
is_some-decode_of text even =
    let is_even : (length text % 2 == 1) ≡ false = grind (arith, nat_tests) in
    rw is_even (is_some-decode_pairs 0 text even)

none-of_is_some : {A : Type 0} (o : Option A) → is_some o ≡ false → o ≡ None
none-of_is_some None e = refl
none-of_is_some (Some a) e = cc

pub none-decode_of : (text : List ℕ) → length text % 2 ≢ 1
    → list_all is_ascii_hexdigit text ≡ false → result_ok (decode_of text) ≡ None
none-decode_of text even e =
    none-of_is_some (result_ok (decode_of text)) (is_some-decode_of text even ∙ e)

pub ruleset hex_digits = (is_some-decode_of, none-decode_of)
