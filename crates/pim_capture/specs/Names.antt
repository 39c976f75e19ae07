-- The names of interfaces.
use Rattle.std.specs.Prelude.{ℕ, Bool, ◌&&◌, ◌==◌, not, nat_le, List, ◌++◌, length, take, drop, replicate}
use Rattle.std.specs.Prelude.{Option, None, Some, if◌then◌else◌}
use Rattle.std.specs.Char.{is_ascii_digit}
use Rattle.std.specs.List.{list_all}
use Rattle.std.specs.Str.{bytes_eq}
use Rattle.pim_capture.specs.declared.interface.InterfaceName.{InterfaceName}

-- A printable character of ASCII other than a space, `+`, `,` and `=`. So a name is one word, and
-- stands in a list and after `P=`.
abbrev pub is_name_byte : ℕ → Bool
is_name_byte byte = nat_le 33 byte && nat_le byte 126 && not (byte == 43) && not (byte == 44) && not (byte == 61)

-- A name has 1 to 16 such bytes, of which not all are digits: a number is no name. Linux has names
-- of at most 15 bytes.
abbrev pub is_name : List ℕ → Bool
is_name text = list_all is_name_byte text && not (list_all is_ascii_digit text) && nat_le (length text) 16

-- The name with this text, if it is one.
unfoldable pub name_of : List ℕ → Option InterfaceName
name_of text =
    if is_name text
    then Some (record { bytes = text ++ drop (length text) (replicate 16 0); length = length text }) else None

-- The text of a name.
abbrev pub text_of : InterfaceName → List ℕ
text_of name = take name.length name.bytes

-- Two names have the same text.
abbrev pub is_same_name : InterfaceName → InterfaceName → Bool
is_same_name one other = bytes_eq (text_of one) (text_of other)
