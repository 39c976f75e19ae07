-- The one text in which an address is written, and how pieces of text are put together.
use Rattle.std.specs.Prelude.{◌≡◌, ℕ, zero, suc, ◌+◌, ◌/◌, ◌%◌, List, [], ◌∷◌, ◌++◌, length, take, drop, map, decimal}
use Rattle.std.specs.List.{join_with_byte}
use Rattle.std.specs.Char.{digit_char}
use Rattle.pim_addr.specs.declared.family.AddressFamily.{AddressFamily}
use Rattle.pim_addr.specs.declared.family.AddressFamily.TheVariants.{Ipv4, Ipv6}

-- The two lower-case hexadecimal digits of a byte.
abbrev pub hex_pair : ℕ → List ℕ
hex_pair byte = digit_char (byte / 16) ∷ digit_char (byte % 16) ∷ []

-- Two bytes at a time, as a group of four lower-case hexadecimal digits.
abbrev pub hex_groups : List ℕ → List (List ℕ)
hex_groups [] = []
hex_groups (high ∷ []) = []
hex_groups (high ∷ low ∷ others) = (hex_pair high ++ hex_pair low) ∷ hex_groups others

-- The one text of an address. IPv4: four decimals joined by `.`. IPv6: the full form of
-- RFC 4291, 2.2, eight groups of four digits with leading zeros, joined by `:`.
abbrev pub address_text : AddressFamily → List ℕ → List ℕ
address_text Ipv4 address = join_with_byte 46 (map decimal address)
address_text Ipv6 address = join_with_byte 58 (hex_groups address)

-- ---- writing a piece at a place in a text

-- The text changed only from `place` up to `end`, and that part of it is the piece.
pub record Wrote (piece : List ℕ) (place : ℕ) (old : List ℕ) (end : ℕ) (new : List ℕ) : Type 0 where
  pub up_to : end ≡ place + length piece
  pub written : take end new ≡ take place old ++ piece
  pub behind : drop end new ≡ drop end old

-- The separator before the piece of this index: none before the first piece, else this byte.
abbrev pub separator : ℕ → ℕ → List ℕ
separator byte zero = []
separator byte (suc index) = byte ∷ []
