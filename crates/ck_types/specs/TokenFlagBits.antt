-- The flags that C_GetTokenInfo gives (PKCS #11 Base 3.0, Slot and token types)
use Rattle.std.specs.Prelude.{ℕ, Bool, true, false, ◌==◌, nat_le, bit_or}

abbrev pub with_flag : Bool → ℕ → ℕ → ℕ
with_flag false flag flags = flags
with_flag true flag flags = bit_or flags flag

-- the flags of a token. A login is always required. The tries are each user's wrong tries since
-- they last went back to 0: from 1 on the count is low, 2 leave a final try, and 3 lock the PIN.
abbrev pub token_flags : Bool → Bool → ℕ → ℕ → ℕ
token_flags is_initialized has_user_pin user_tries so_tries =
    with_flag (so_tries == 3) 0x400000
    (with_flag (so_tries == 2) 0x200000
    (with_flag (nat_le 1 so_tries) 0x100000
    (with_flag (user_tries == 3) 0x40000
    (with_flag (user_tries == 2) 0x20000
    (with_flag (nat_le 1 user_tries) 0x10000
    (with_flag is_initialized 0x400
    (with_flag has_user_pin 0x8 0x4)))))))
