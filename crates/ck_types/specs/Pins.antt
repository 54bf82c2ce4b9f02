-- What the token keeps of a PIN
use Rattle.std.specs.Prelude.{ℕ, Bool, List, length, nat_le, ◌==◌, ◌&&◌}
use Rattle.sha2.specs.Sha256.{sha256}
use Rattle.ck_types.specs.Numbers.{same_bytes}
use Rattle.ck_types.specs.declared.pins.Pin.{Pin}

-- the length and the SHA-256 digest of a PIN's bytes
abbrev pub pin_of : List ℕ → Pin
pin_of bytes = record { len = length bytes; digest = sha256 bytes }

-- a PIN that is set has 4 to 64 bytes
abbrev pub fits_a_pin : Pin → Bool
fits_a_pin pin = nat_le 4 pin.len && nat_le pin.len 64

-- two PINs count as the same where their lengths and digests are equal
abbrev pub same_pin : Pin → Pin → Bool
same_pin a b = a.len == b.len && same_bytes a.digest b.digest
