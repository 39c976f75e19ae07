-- The names of ports.
use Rattle.std.specs.Prelude.{ℕ, Bool, false, ◌&&◌, ◌||◌, ◌==◌, nat_le, List, [], ◌∷◌, length}
use Rattle.std.specs.Char.{is_ascii_alphabetic, is_ascii_alphanumeric}
use Rattle.std.specs.List.{list_all}

-- A letter, a digit, `.`, `_` or `-`.
abbrev pub is_port_name_byte : ℕ → Bool
is_port_name_byte byte = is_ascii_alphanumeric byte || (byte == 46 || (byte == 95 || byte == 45))

-- A name that a user may give to a port: a letter, then up to 31 letters, digits, `.`, `_` or `-`.
abbrev pub is_port_name : List ℕ → Bool
is_port_name [] = false
is_port_name (first ∷ others) =
    is_ascii_alphabetic first && (list_all is_port_name_byte others && nat_le (length others) 31)
