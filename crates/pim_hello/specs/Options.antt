-- A Hello body is a row of options (RFC 7761, 4.9.2): two bytes of type, two of length, and a value
-- of that length. The lengths alone decide the cut, which ends at the first option that isn't
-- whole.
use Rattle.std.specs.Prelude.{ℕ, zero, suc, ◌+◌, Bool, ◌&&◌, ◌==◌, nat_le, List, [], ◌∷◌, length, take, drop, Option}
use Rattle.std.specs.Prelude.{Some, None, if◌then◌else◌}
use Rattle.std.specs.Option.{option_or}
use Rattle.byteorder.specs.Endian.{big_number}

-- ---- the option at the front

-- OptionType of the option at the front.
abbrev pub option_type : List ℕ → ℕ
option_type bytes = big_number 2 bytes

-- OptionLength of the option at the front: the length of its value in bytes.
abbrev pub value_length : List ℕ → ℕ
value_length bytes = big_number 2 (drop 2 bytes)

-- The option at the front is whole.
abbrev pub is_whole : List ℕ → Bool
is_whole bytes = nat_le 4 (length bytes) && nat_le (value_length bytes) (length (drop 4 bytes))

-- OptionValue of the option at the front.
abbrev pub option_value : List ℕ → List ℕ
option_value bytes = take (value_length bytes) (drop 4 bytes)

-- The bytes after the option at the front.
abbrev pub behind_option : List ℕ → List ℕ
behind_option bytes = drop (value_length bytes) (drop 4 bytes)

-- ---- the cut

-- What is at the place of an option: its type and value, or bytes that are no whole option.
pub data Content : Type 0 where
  whole : ℕ → List ℕ → Content
  partial : Content

-- What is at the front of the bytes.
abbrev pub content_at : List ℕ → Content
content_at bytes = if is_whole bytes then whole (option_type bytes) (option_value bytes) else partial

-- An option with its offset in the body.
pub record Part : Type 0 where
  pub at : ℕ
  pub content : Content

-- An option and, if it is whole, the options after it.
abbrev pub part_then : ℕ → Content → List Part → List Part
part_then at (whole type_code value) others = record { at = at; content = whole type_code value } ∷ others
part_then at partial others = record { at = at; content = partial } ∷ []

-- At most `count` options at the front of the bytes, which start at the offset `at`.
unfoldable pub parts_within : ℕ → ℕ → List ℕ → List Part
parts_within zero at bytes = []
parts_within (suc count) at bytes =
    if length bytes == 0 then []
    else part_then at (content_at bytes) (parts_within count (at + (4 + value_length bytes)) (behind_option bytes))

-- All options of a body. Each has bytes of its own, so that there are no more options than bytes.
abbrev pub parts : List ℕ → List Part
parts body = parts_within (length body) 0 body

-- ---- the last of a repeated option counts, which is a choice of this project

-- The value of an option, if it is whole and of this type.
abbrev pub value_if : ℕ → Content → Option (List ℕ)
value_if type_code (whole this value) = if this == type_code then Some value else None
value_if type_code partial = None

-- The value of the last option of this type.
unfoldable pub last_of : ℕ → List Part → Option (List ℕ)
last_of type_code [] = None
last_of type_code (part ∷ others) = option_or (last_of type_code others) (value_if type_code part.content)
