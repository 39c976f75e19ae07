-- The lines of messages: their lengths, their bytes in hexadecimal, and their number.
use Rattle.std.specs.Prelude.{ℕ, List, [], ◌++◌}
use Rattle.std.specs.Prelude.{length, codes, decimal, Option, None, Some}
use Rattle.std.specs.List.{flat_map}
use Rattle.pim_lines.specs.Hex.{hex_of}
use Rattle.pim_lines.specs.Pieces.{line}

-- The words before the digits of a message of this length in bytes.
abbrev pub length_words : ℕ → List ℕ
length_words count = codes "message " ++ decimal count ++ codes " "

-- `message LENGTH HEX`.
abbrev pub message_line : List ℕ → List ℕ
message_line message = length_words (length message) ++ line (flat_map hex_of message)

-- The line of a message, or nothing if there is none.
abbrev pub message_line_of : Option (List ℕ) → List ℕ
message_line_of None = []
message_line_of (Some message) = message_line message

-- `messages N`: the number of messages.
abbrev pub count_line : ℕ → List ℕ
count_line count = line (codes "messages " ++ decimal count)

-- The lines of all messages, then their number.
abbrev pub messages_text : List (List ℕ) → List ℕ
messages_text messages = flat_map message_line messages ++ count_line (length messages)
