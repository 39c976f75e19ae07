-- What an item of the input asks for, and the faults that depend on no state.
use Rattle.std.specs.Prelude.{◌≡◌, ◌⊎◌, ℕ, ◌+◌, ◌<◌, ◌≤◌, ◌==◌, Bool, true, false, List}
use Rattle.std.specs.Prelude.{◌++◌, length, count_by, codes}
use Rattle.std.specs.Prelude.{decimal, Result, Ok, Err}
use Rattle.pim_text.specs.declared.line.Stated.{Stated}
use Rattle.pim_text.specs.Read.{IsRead, IsWrongLine}
use Rattle.pim_request.specs.declared.command.Sender.{Sender}
use Rattle.pim_request.specs.declared.command.WordsFault.{WordsFault}
use Rattle.pim_request.specs.declared.command.WordsFault.TheVariants.{Word, Address, Hex}
use Rattle.pim_request.specs.Commands.{States, StatesSender, IsWordsFault, IsSenderFault}
use Rattle.pim_request.specs.Items.{Item, a_line, a_long_line, a_text, Text, bytes_of_lines}
use Rattle.pim_request.specs.Items.{has_long_line, text_limit}
use Rattle.pim_answers.specs.declared.packets.FromText.{FromText}
use Rattle.pim_session.specs.declared.request.Request.{Request}
use Rattle.pim_session.specs.declared.request.Request.TheVariants.{Command, From}

-- ---- the faults of words

-- The words of what is wrong with the words of a line.
abbrev pub wrong_words : WordsFault → List ℕ
wrong_words (Word word) = codes "word " ++ word.now
wrong_words (Address word) = codes "address " ++ word.now
wrong_words Hex = codes "hex"

-- The words of a line above 1 MiB.
abbrev pub long_line_words : List ℕ
long_line_words = codes "line too-long"

-- ---- texts

-- The line with this number, from 1, is the first wrong one of a text: the text has it, or lacks it
-- at its end. Where the text states a message and `send` didn't end it, that is the next line.
abbrev pub IsWrongIn : List ℕ → ℕ → Bool → Type 0
IsWrongIn bytes number is_sent = IsWrongLine bytes number
    ⊎ (is_sent ≡ false) × ((stated : Stated) × IsRead bytes stated)
    × (number ≡ count_by (λ byte. byte == 10) bytes + 1)

-- The words say which line of these bytes is wrong.
abbrev pub SaysWrong : List ℕ → Bool → List ℕ → Type 0
SaysWrong bytes is_sent words = (number : ℕ) × IsWrongIn bytes number is_sent
    × (words ≡ codes "text line " ++ decimal number)

-- Why a text, of these bytes, states no message: it is above 8 MiB, or a line is wrong.
abbrev pub IsBadText : List ℕ → Bool → List ℕ → Type 0
IsBadText bytes is_sent words =
    (text_limit < length bytes) × (words ≡ codes "text too-long")
    ⊎ (length bytes ≤ text_limit) × SaysWrong bytes is_sent words

-- The words of a `from` line are wrong; or they are right, and the text is bad.
abbrev pub IsTextFault : Text → List ℕ → Type 0
IsTextFault text words =
    ((fault : WordsFault) × IsSenderFault text.head fault × (words ≡ wrong_words fault))
    ⊎ ((sender : Sender) × StatesSender text.head sender × IsBadText (bytes_of_lines text.lines)
    text.is_sent words)

-- The `from` line states this sender, and the text, which `send` ended, states a message.
pub record IsFrom (text : Text) (from : FromText) : Type 0 where
  pub sender : StatesSender text.head from.sender
  pub is_sent : text.is_sent ≡ true
  pub bytes : from.text.now ≡ bytes_of_lines text.lines
  pub short : length from.text.now ≤ text_limit
  pub stated : IsRead from.text.now from.stated

-- ---- requests

-- What a line asks for, or the words of its fault.
abbrev pub RequestsLine : List ℕ → Result Request (List ℕ) → Type 0
RequestsLine line (Ok (Command command)) = States line command
RequestsLine line (Ok (From from)) = ⊥
RequestsLine line (Err words) = (fault : WordsFault) × IsWordsFault line fault
    × (words ≡ wrong_words fault)

-- What a text asks for, or the words of its fault.
abbrev pub RequestsText : Text → Result Request (List ℕ) → Type 0
RequestsText text (Ok (Command command)) = ⊥
RequestsText text (Ok (From from)) = IsFrom text from
RequestsText text (Err words) = IsTextFault text words

-- The same, where one of its lines may be too long.
abbrev pub RequestsTextOf : Bool → Text → Result Request (List ℕ) → Type 0
RequestsTextOf true text requested = requested ≡ Err long_line_words
RequestsTextOf false text requested = RequestsText text requested

-- What an item asks for, or the words of the first of the faults that depend on no state: of a line
-- that is too long, of the words from the left, of the text.
abbrev pub Requests : Item → Result Request (List ℕ) → Type 0
Requests (a_line line) requested = RequestsLine line requested
Requests a_long_line requested = requested ≡ Err long_line_words
Requests (a_text text) requested = RequestsTextOf (has_long_line text) text requested
