-- Bytes as hexadecimal digits.
use Rattle.std.specs.Prelude.{ℕ, ◌+◌, ◌/◌, ◌%◌, nat_lt, if◌then◌else◌, List, [], ◌∷◌}

-- The character of a hexadecimal digit, in lower case.
abbrev pub hex_digit : ℕ → ℕ
hex_digit value = if nat_lt value 10 then value + 48 else value + 87

-- The two digits of a byte.
abbrev pub hex_of : ℕ → List ℕ
hex_of byte = hex_digit (byte / 16) ∷ hex_digit (byte % 16) ∷ []
