-- Bytes in hexadecimal.
use Rattle.std.specs.Prelude.{ℕ, ◌+◌, ◌-◌, ◌/◌, ◌%◌, cond, List, [], ◌∷◌, nat_lt}
use Rattle.std.specs.List.{flat_map}

-- The character of a digit: '0' (48) to '9', then 'A' (65) to 'F'.
abbrev pub hex_digit_of : ℕ → ℕ
hex_digit_of n = cond (nat_lt n 10) (48 + n) (65 + (n - 10))

-- A space (32) and the two digits of a byte.
abbrev pub hex_byte : ℕ → List ℕ
hex_byte b = 32 ∷ hex_digit_of (b / 16) ∷ hex_digit_of (b % 16) ∷ []

-- The bytes, one after the other.
abbrev pub hex_text : List ℕ → List ℕ
hex_text bytes = flat_map hex_byte bytes
