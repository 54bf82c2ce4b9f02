-- What the arguments of a script's line mean, and None where a text isn't of an argument's form
use Rattle.std.specs.Prelude.{ℕ, ◌^◌, Bool, List, [], ◌∷◌, Option, Some, None, option_map}
use Rattle.std.specs.Prelude.{◌==◌, ◌&&◌, ◌||◌, not, nat_le, nat_lt, length, slice_index, codes}
use Rattle.std.specs.Prelude.{if◌then◌else◌}
use Rattle.std.specs.List.{list_all}
use Rattle.std.specs.Result.{result_ok}
use Rattle.std.specs.Char.{is_ascii_digit}
use Rattle.std.specs.Str.Parse.{digits_value}
use Rattle.hex.specs.Hex.{decode_of}
use Rattle.ck_types.specs.Numbers.{same_bytes}
use Rattle.ck_types.specs.Pins.{pin_of}
use Rattle.ck_types.specs.declared.pins.Pin.{Pin}
use Rattle.ck_objects.specs.declared.items.Item.{Item}
use Rattle.ck_types.specs.declared.mechanisms.Mechanism.{Mechanism}
use Rattle.ck_objects.specs.declared.templates.Template.{Template}
use Rattle.ck_journal.specs.declared.calls.AttributeQuery.{AttributeQuery}
use Rattle.ck_script.specs.Splits.{words_of, with_two}

-- ---- bytes by their names

abbrev pub comma : ℕ
comma = 44

abbrev pub colon : ℕ
colon = 58

abbrev pub equals_sign : ℕ
equals_sign = 61

abbrev pub digit_0 : ℕ
digit_0 = 48

abbrev pub letter_a : ℕ
letter_a = 97

abbrev pub letter_f : ℕ
letter_f = 102

-- ---- numbers

-- a digit of a code number, in lower case
abbrev pub is_code_digit : ℕ → Bool
is_code_digit c = is_ascii_digit c || (nat_le letter_a c && nat_le c letter_f)

-- `0` stands before other digits
abbrev pub has_leading_zero : List ℕ → Bool
has_leading_zero text = slice_index text 0 == digit_0 && nat_lt 1 (length text)

-- the number below 2^64 that digits of a base write without a leading zero
abbrev pub numeral_value : ℕ → List ℕ → Option ℕ
numeral_value base digits =
    if not (length digits == 0) && not (has_leading_zero digits)
    && nat_lt (digits_value base digits) (2 ^ 64)
    then Some (digits_value base digits)
    else None

-- a number, in decimal: sessions, objects, lengths, counts
abbrev pub number_in : List ℕ → Option ℕ
number_in text = if list_all is_ascii_digit text then numeral_value 10 text else None

-- a code number, in hexadecimal: flags, types of attributes and of mechanisms
abbrev pub code_number_in : List ℕ → Option ℕ
code_number_in text = if list_all is_code_digit text then numeral_value 16 text else None

-- ---- values of several words, which have a meaning where each word has one

abbrev pub both : {A B C : Type 0} → (A → B → C) → Option A → Option B → Option C
both make None second = None
both make (Some a) None = None
both make (Some a) (Some b) = Some (make a b)

abbrev pub pair_in : {A B : Type 0}
    → (List ℕ → Option A) → (List ℕ → Option B) → List ℕ → List ℕ → Option (A × B)
pair_in first second a b = both (λ x y. (x, y)) (first a) (second b)

abbrev pub two_in : {A B : Type 0}
    → (List ℕ → Option A) → (List ℕ → Option B) → List (List ℕ) → Option (A × B)
two_in first second = with_two (pair_in first second)

abbrev pub all_three : {A B C D : Type 0}
    → (A → B → C → D) → Option A → Option B → Option C → Option D
all_three make None second third = None
all_three make (Some a) second third = both (make a) second third

abbrev pub all_four : {A B C D E : Type 0}
    → (A → B → C → D → E) → Option A → Option B → Option C → Option D → Option E
all_four make None second third fourth = None
all_four make (Some a) second third fourth = all_three (make a) second third fourth

abbrev pub each : {A : Type 0} → (List ℕ → Option A) → List (List ℕ) → Option (List A)
each meaning [] = Some []
each meaning (word ∷ words) = both (λ a rest. a ∷ rest) (meaning word) (each meaning words)

-- ---- bytes, PINs, rooms, mechanisms, templates and queries

-- `-` stands for nothing
abbrev pub is_dash : List ℕ → Bool
is_dash text = same_bytes text (codes "-")

-- two hexadecimal digits of either case for each byte
abbrev pub bytes_in : List ℕ → Option (List ℕ)
bytes_in text =
    if is_dash text then Some []
    else if length text == 0 then None
    else result_ok (decode_of text)

-- a PIN is written as its bytes
abbrev pub pin_in : List ℕ → Option Pin
pin_in text = option_map pin_of (bytes_in text)

-- `?` asks only for the length
abbrev pub room_in : List ℕ → Option (Option ℕ)
room_in text = if same_bytes text (codes "?") then Some None else option_map Some (number_in text)

-- the words of a mechanism: its type, and its parameter where it has one
abbrev pub mechanism_of : List (List ℕ) → Option Mechanism
mechanism_of (kind ∷ []) =
    option_map (λ k. record { kind = k; parameter = [] }) (code_number_in kind)
mechanism_of (kind ∷ parameter ∷ []) =
    both (λ k p. record { kind = k; parameter = p }) (code_number_in kind) (bytes_in parameter)
mechanism_of others = None

-- a mechanism: `type`, or `type:bytes`
abbrev pub mechanism_in : List ℕ → Option Mechanism
mechanism_in text = mechanism_of (words_of colon text)

-- one item of a template: `type=bytes`
abbrev pub item_in : List ℕ → Option Item
item_in text =
    with_two (λ kind value.
    both (λ k v. record { kind = k; value = v }) (code_number_in kind) (bytes_in value))
    (words_of equals_sign text)

-- one query of an attribute: `type:room`
abbrev pub query_in : List ℕ → Option AttributeQuery
query_in text =
    with_two (λ kind room.
    both (λ k r. record { kind = k; room = r }) (code_number_in kind) (room_in room))
    (words_of colon text)

-- items between commas
abbrev pub list_in : {A : Type 0} → (List ℕ → Option A) → List ℕ → Option (List A)
list_in meaning text = if is_dash text then Some [] else each meaning (words_of comma text)

abbrev pub template_in : List ℕ → Option Template
template_in text = option_map (λ items. record { items = items }) (list_in item_in text)

abbrev pub queries_in : List ℕ → Option (List AttributeQuery)
queries_in text = list_in query_in text
