-- What a command was given: the values of its options, as texts, and its words.
use Rattle.std.specs.Prelude.{◌≡◌, ◌≤◌, ◌⊎◌, ℕ, Bool, true, false, List, [], ◌∷◌, Option, Some, None, codes, unwrap_or}
use Rattle.std.specs.Str.{bytes_eq}
use Rattle.std.specs.Str.Parse.{IsNumeral, digits_value, without_leading_plus}
use Rattle.clap.specs.Words.{Row, Text, first_of, all_of}
use Rattle.pim_words.specs.declared.task.CommandKind.{CommandKind}
use Rattle.pim_words.specs.declared.task.CommandKind.TheVariants.{Check, Build, Replay, Trace, Audit, Same, Mirror, Emit, Change}

-- The value of an option, or its default if the words have none.
abbrev pub option_or : Text → Text → List Row → Text
option_or default name rows = unwrap_or (first_of name rows) default

-- The value of an option that must be given. `clap` refuses words without it.
abbrev pub required : Text → List Row → Text
required name rows = option_or [] name rows

-- Whether a flag is given: `clap` has the text `true` for it then, and `false` otherwise.
abbrev pub is_flag : Text → List Row → Bool
is_flag name rows = bytes_eq (option_or (codes "false") name rows) (codes "true")

-- All values of an option, in order.
abbrev pub values_of : Text → List Row → List Text
values_of name rows = unwrap_or (all_of name rows) []

-- The words that aren't options.
abbrev pub words_of : List Row → List Text
words_of rows = values_of (codes "words") rows

-- ---- numbers

-- The text spells this number in decimal digits, with an optional plus sign, and it is from `low`
-- to `high`.
pub record IsNumber (low high : ℕ) (text : Text) (number : ℕ) : Type 0 where
  pub digits : IsNumeral 10 (without_leading_plus text)
  pub value : digits_value 10 (without_leading_plus text) ≡ number
  pub least : low ≤ number
  pub most : number ≤ high

-- The text spells no number from `low` to `high`.
abbrev pub IsNoNumber : ℕ → ℕ → Text → Type 0
IsNoNumber low high text = (number : ℕ) → IsNumber low high text number → ⊥

-- ---- commands

-- The name of a command that asks for a task.
abbrev pub kind_name : CommandKind → Text
kind_name Check = codes "check"
kind_name Build = codes "build"
kind_name Replay = codes "replay"
kind_name Trace = codes "trace"
kind_name Audit = codes "audit"
kind_name Same = codes "same"
kind_name Mirror = codes "mirror"
kind_name Emit = codes "emit"
kind_name Change = codes "change"

-- The name of the command without a task.
abbrev pub session_name : Text
session_name = codes "session"

-- The name of some command that asks for a task.
abbrev pub IsNameOfTask : Text → Type 0
IsNameOfTask name = (kind : CommandKind) × (name ≡ kind_name kind)

-- The name of some command.
abbrev pub IsKnown : Text → Type 0
IsKnown name = (name ≡ session_name) ⊎ IsNameOfTask name

-- Whether the command has two routers, so that each word has the mark of its router.
abbrev pub is_sided : CommandKind → Bool
is_sided Same = true
is_sided Change = true
is_sided other = false

-- Whether the command has a writer of messages.
abbrev pub has_writer : CommandKind → Bool
has_writer Check = false
has_writer Build = false
has_writer Replay = false
has_writer Trace = false
has_writer Audit = false
has_writer other = true

-- The text of the RP, if one is given.
abbrev pub rp_text : CommandKind → List Row → Option Text
rp_text Check rows = None
rp_text Build rows = None
rp_text Replay rows = first_of (codes "rp") rows
rp_text Trace rows = first_of (codes "rp") rows
rp_text Audit rows = first_of (codes "rp") rows
rp_text kind rows = Some (required (codes "rp") rows)

-- The text of the source address of a message.
abbrev pub source_text : List Row → Text
source_text rows = option_or (codes "0.0.0.0") (codes "src") rows

-- The text of the destination address of a message.
abbrev pub destination_text : List Row → Text
destination_text rows = option_or (codes "224.0.0.13") (codes "dst") rows

-- The texts of the options that are addresses, in order, each if it is given or has a default.
abbrev pub address_texts : CommandKind → List Row → List (Option Text)
address_texts Check rows = Some (source_text rows) ∷ Some (destination_text rows) ∷ []
address_texts Build rows = Some (source_text rows) ∷ Some (destination_text rows) ∷ []
address_texts Replay rows = rp_text Replay rows ∷ []
address_texts Trace rows = rp_text Trace rows ∷ []
address_texts Audit rows = Some (required (codes "upstream") rows) ∷ rp_text Audit rows ∷ []
address_texts kind rows =
    rp_text kind rows ∷ Some (required (codes "upstream") rows) ∷ Some (required (codes "own") rows) ∷ []
