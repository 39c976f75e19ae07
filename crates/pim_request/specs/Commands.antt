-- The commands of a session: the forms of their words, and what the words state.
use Rattle.std.specs.Prelude.{◌≡◌, ◌⊎◌, ℕ, ◌≤◌, ◌++◌, List, [], ◌∷◌, codes, decimal, map, Option, Some, None, if◌then◌else◌}
use Rattle.std.specs.Prelude.{bytes_eq}
use Rattle.pim_lines.specs.AnyAddress.{Names}
use Rattle.pim_lines.specs.declared.either.AnyAddress.{AnyAddress}
use Rattle.pim_request.specs.declared.command.PortRow.{PortRow}
use Rattle.pim_request.specs.declared.command.RouteRow.{RouteRow}
use Rattle.pim_request.specs.declared.command.Packet.{Packet}
use Rattle.pim_request.specs.declared.command.Sender.{Sender}
use Rattle.pim_request.specs.declared.command.AnyWriting.{AnyWriting}
use Rattle.pim_request.specs.declared.command.KeptWhat.{KeptWhat}
use Rattle.pim_request.specs.declared.command.Comparison.{Comparison}
use Rattle.pim_request.specs.declared.command.Command.{Command}
use Rattle.pim_request.specs.declared.command.Command.TheVariants.{Port, Rp, Via, Limit, Start, Run, Now, Next, State, Wants, Neighbours, Messages, Keep, Change, Same, Reset}
use Rattle.pim_request.specs.declared.command.Command.TheVariants.{Packet as Arrival}
use Rattle.pim_request.specs.declared.command.WordsFault.{WordsFault}
use Rattle.pim_request.specs.Forms.{Slot, key, address, number, prefix, name, digits, most, words_of, IsHex, IsPrefix, IsWord, IsFault}

-- ---- the forms of the words after each command

-- The forms that begin with these slots and end with one of these.
abbrev pub after : List Slot → List (List Slot) → List (List Slot)
after front ends = map (λ end. front ++ end) ends

-- `[delays PROPAGATION OVERRIDE]`
abbrev pub delays_forms : List (List Slot)
delays_forms = [] ∷ (key (codes "delays") ∷ number 0 32767 ∷ number 0 65535 ∷ []) ∷ []

-- `[to DST]`
abbrev pub destination_forms : List (List Slot)
destination_forms = [] ∷ (key (codes "to") ∷ address ∷ []) ∷ []

-- `[budget N]`
abbrev pub budget_forms : List (List Slot)
budget_forms = [] ∷ (key (codes "budget") ∷ number 70 65000 ∷ []) ∷ []

-- `[holdtime S] [budget N]`
abbrev pub option_forms : List (List Slot)
option_forms = after (key (codes "holdtime") ∷ number 99 65535 ∷ []) budget_forms ++ budget_forms

-- `ADDRESS [delays PROPAGATION OVERRIDE]`
abbrev pub port_forms : List (List Slot)
port_forms = after (address ∷ []) delays_forms

-- `ADDRESS/LENGTH ADDRESS`
abbrev pub row_forms : List (List Slot)
row_forms = (prefix ∷ address ∷ []) ∷ []

-- `P SRC DST HEX`
abbrev pub packet_forms : List (List Slot)
packet_forms = (number 0 most ∷ address ∷ address ∷ digits ∷ []) ∷ []

-- `P SRC [to DST]`
abbrev pub sender_forms : List (List Slot)
sender_forms = after (number 0 most ∷ address ∷ []) destination_forms

-- `UPSTREAM OWN [holdtime S] [budget N]`
abbrev pub writing_forms : List (List Slot)
writing_forms = after (address ∷ address ∷ []) option_forms

-- `NAME UPSTREAM`
abbrev pub kept_forms : List (List Slot)
kept_forms = (name ∷ address ∷ []) ∷ []

-- `NAME UPSTREAM OWN [holdtime S] [budget N]`
abbrev pub comparison_forms : List (List Slot)
comparison_forms = after (name ∷ []) writing_forms

-- A number of this range, alone.
abbrev pub number_forms : ℕ → ℕ → List (List Slot)
number_forms low high = (number low high ∷ []) ∷ []

-- An address alone.
abbrev pub address_forms : List (List Slot)
address_forms = (address ∷ []) ∷ []

-- No words.
abbrev pub no_words : List (List Slot)
no_words = [] ∷ []

-- A command with the forms of its words.
pub record Usage : Type 0 where
  pub command : List ℕ
  pub forms : List (List Slot)

-- The command and its forms.
abbrev pub usage : List ℕ → List (List Slot) → Usage
usage command forms = record { command = command; forms = forms }

-- All commands but `from`.
abbrev pub usages : List Usage
usages =
    usage (codes "port") port_forms
    ∷ usage (codes "rp") row_forms
    ∷ usage (codes "via") row_forms
    ∷ usage (codes "limit") (number_forms 1 100000)
    ∷ usage (codes "start") no_words
    ∷ usage (codes "run") (number_forms 0 most)
    ∷ usage (codes "packet") packet_forms
    ∷ usage (codes "now") no_words
    ∷ usage (codes "next") no_words
    ∷ usage (codes "state") no_words
    ∷ usage (codes "wants") no_words
    ∷ usage (codes "neighbours") no_words
    ∷ usage (codes "messages") writing_forms
    ∷ usage (codes "keep") kept_forms
    ∷ usage (codes "change") comparison_forms
    ∷ usage (codes "same") comparison_forms
    ∷ usage (codes "reset") no_words
    ∷ []

-- The forms of a command among these, none where it is unknown.
abbrev pub forms_in : List Usage → List ℕ → List (List Slot)
forms_in [] command = []
forms_in (first ∷ others) command =
    if bytes_eq first.command command then first.forms else forms_in others command

-- ---- faults

-- What is wrong with a command that has these forms. One without forms is unknown: a wrong word.
abbrev pub IsFaultOf : List (List Slot) → List ℕ → List (List ℕ) → WordsFault → Type 0
IsFaultOf [] command words fault = IsWord command fault
IsFaultOf (form ∷ forms) command words fault = IsFault (form ∷ forms) command words fault

-- What is wrong with the words of a line, where the commands are these.
abbrev pub IsFaultAmong : List Usage → List ℕ → WordsFault → Type 0
IsFaultAmong among line fault =
    (command : List ℕ) × (words : List (List ℕ)) × (words_of line ≡ command ∷ words)
    × IsFaultOf (forms_in among command) command words fault

-- What is wrong with the words of a line.
abbrev pub IsWordsFault : List ℕ → WordsFault → Type 0
IsWordsFault line fault = IsFaultAmong usages line fault

-- What is wrong with the words of a line that begins a text.
abbrev pub IsSenderFault : List ℕ → WordsFault → Type 0
IsSenderFault line fault = IsFaultAmong (usage (codes "from") sender_forms ∷ []) line fault

-- ---- what words state

-- An optional number after this word: it is this one, or none is given and it is the default.
abbrev pub IsOption : List ℕ → ℕ → ℕ → ℕ → ℕ → List (List ℕ) → Type 0
IsOption word low high default n words =
    ((words ≡ []) × (n ≡ default)) ⊎ ((words ≡ word ∷ decimal n ∷ []) × (low ≤ n) × (n ≤ high))

-- The delays of a port in milliseconds: 500 and 2,500 where none are given.
abbrev pub AreDelays : ℕ → ℕ → List (List ℕ) → Type 0
AreDelays propagation override_ms words =
    ((words ≡ []) × (propagation ≡ 500) × (override_ms ≡ 2500))
    ⊎ ((words ≡ codes "delays" ∷ decimal propagation ∷ decimal override_ms ∷ [])
    × (propagation ≤ 32767) × (override_ms ≤ 65535))

-- The destination of a packet, if one is given.
abbrev pub IsDestination : Option AnyAddress → List (List ℕ) → Type 0
IsDestination None words = words ≡ []
IsDestination (Some destination) words =
    (text : List ℕ) × Names text destination × (words ≡ codes "to" ∷ text ∷ [])

-- A holdtime in seconds, 210 where none is given, and then a budget in bytes, 1,460 where none is
-- given.
abbrev pub AreOptions : ℕ → ℕ → List (List ℕ) → Type 0
AreOptions holdtime budget words =
    (front : List (List ℕ)) × (back : List (List ℕ)) × (words ≡ front ++ back)
    × IsOption (codes "holdtime") 99 65535 210 holdtime front
    × IsOption (codes "budget") 70 65000 1460 budget back

-- The words state this port.
abbrev pub IsPort : PortRow → List (List ℕ) → Type 0
IsPort row words =
    (text : List ℕ) × (others : List (List ℕ)) × (words ≡ text ∷ others) × Names text row.address
    × AreDelays row.propagation row.override_ms others

-- The words state this row.
abbrev pub IsRow : RouteRow → List (List ℕ) → Type 0
IsRow row words =
    (word : List ℕ) × (text : List ℕ) × (to : List ℕ) × (words ≡ word ∷ to ∷ [])
    × IsPrefix text row.length word × Names text row.prefix × Names to row.to

-- The words state this packet.
abbrev pub IsPacket : Packet → List (List ℕ) → Type 0
IsPacket packet words =
    (source : List ℕ) × (destination : List ℕ)
    × (words ≡ decimal packet.port ∷ source ∷ destination ∷ packet.hex.now ∷ [])
    × (packet.port ≤ most) × Names source packet.source × Names destination packet.destination
    × IsHex packet.hex.now

-- The words state this sender.
abbrev pub IsSender : Sender → List (List ℕ) → Type 0
IsSender sender words =
    (source : List ℕ) × (others : List (List ℕ)) × (words ≡ decimal sender.port ∷ source ∷ others)
    × (sender.port ≤ most) × Names source sender.source × IsDestination sender.destination others

-- The words say that messages are written so.
abbrev pub IsWriting : AnyWriting → List (List ℕ) → Type 0
IsWriting writing words =
    (upstream : List ℕ) × (own : List ℕ) × (others : List (List ℕ))
    × (words ≡ upstream ∷ own ∷ others) × Names upstream writing.upstream × Names own writing.own
    × AreOptions writing.holdtime writing.budget others

-- The words state this name and upstream neighbour.
abbrev pub IsKept : KeptWhat → List (List ℕ) → Type 0
IsKept kept words =
    (upstream : List ℕ) × (words ≡ kept.name.now ∷ upstream ∷ []) × (kept.name.now ≡ [] → ⊥)
    × Names upstream kept.upstream

-- The words state this name, and how messages are written.
abbrev pub IsComparison : Comparison → List (List ℕ) → Type 0
IsComparison compared words =
    (others : List (List ℕ)) × (words ≡ compared.name.now ∷ others) × (compared.name.now ≡ [] → ⊥)
    × IsWriting compared.writing others

-- The first word is this command, and the words after it are so.
abbrev pub HasCommand : List ℕ → (List (List ℕ) → Type 0) → List (List ℕ) → Type 0
HasCommand command is_so words =
    (others : List (List ℕ)) × (words ≡ command ∷ others) × is_so others

-- The words are one number of this range.
abbrev pub IsNumber : ℕ → ℕ → ℕ → List (List ℕ) → Type 0
IsNumber low high n words = (words ≡ decimal n ∷ []) × (low ≤ n) × (n ≤ high)

-- The words state this command.
abbrev pub AreCommand : List (List ℕ) → Command → Type 0
AreCommand words (Port row) = HasCommand (codes "port") (IsPort row) words
AreCommand words (Rp row) = HasCommand (codes "rp") (IsRow row) words
AreCommand words (Via row) = HasCommand (codes "via") (IsRow row) words
AreCommand words (Limit n) = HasCommand (codes "limit") (IsNumber 1 100000 n) words
AreCommand words Start = words ≡ codes "start" ∷ []
AreCommand words (Run moment) = HasCommand (codes "run") (IsNumber 0 most moment) words
AreCommand words (Arrival packet) = HasCommand (codes "packet") (IsPacket packet) words
AreCommand words Now = words ≡ codes "now" ∷ []
AreCommand words Next = words ≡ codes "next" ∷ []
AreCommand words State = words ≡ codes "state" ∷ []
AreCommand words Wants = words ≡ codes "wants" ∷ []
AreCommand words Neighbours = words ≡ codes "neighbours" ∷ []
AreCommand words (Messages writing) = HasCommand (codes "messages") (IsWriting writing) words
AreCommand words (Keep kept) = HasCommand (codes "keep") (IsKept kept) words
AreCommand words (Change compared) = HasCommand (codes "change") (IsComparison compared) words
AreCommand words (Same compared) = HasCommand (codes "same") (IsComparison compared) words
AreCommand words Reset = words ≡ codes "reset" ∷ []

-- The line states this command.
abbrev pub States : List ℕ → Command → Type 0
States line command = AreCommand (words_of line) command

-- The line begins a text, and states this sender.
abbrev pub StatesSender : List ℕ → Sender → Type 0
StatesSender line sender = HasCommand (codes "from") (IsSender sender) (words_of line)
