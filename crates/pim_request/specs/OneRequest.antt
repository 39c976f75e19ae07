-- What a line asks for is one thing: the statements of the laws in `src/laws.rt`.
use Rattle.std.specs.Prelude.{◌≡◌, ⊤, ℕ, List}
use Rattle.pim_request.specs.declared.command.Packet.{Packet}
use Rattle.pim_request.specs.declared.command.Sender.{Sender}
use Rattle.pim_request.specs.declared.command.KeptWhat.{KeptWhat}
use Rattle.pim_request.specs.declared.command.Comparison.{Comparison}
use Rattle.pim_request.specs.declared.command.Command.{Command}
use Rattle.pim_request.specs.declared.command.Command.TheVariants.{Port, Rp, Via, Limit, Start, Run, Now, Next, State, Wants, Neighbours, Messages, Keep, Change, Same, Reset}
use Rattle.pim_request.specs.declared.command.Command.TheVariants.{Packet as Arrival}
use Rattle.pim_request.specs.declared.command.WordsFault.{WordsFault}
use Rattle.pim_request.specs.declared.command.WordsFault.TheVariants.{Word, Address, Hex}
use Rattle.pim_request.specs.Commands.{States, StatesSender, IsWordsFault, IsSenderFault}

-- ---- the same command, wherever its words lie

-- Both are the same packet, with the same digits.
pub record SamePacket (one other : Packet) : Type 0 where
  pub port : one.port ≡ other.port
  pub source : one.source ≡ other.source
  pub destination : one.destination ≡ other.destination
  pub hex : one.hex.now ≡ other.hex.now

-- Both have the same name and upstream neighbour.
pub record SameKept (one other : KeptWhat) : Type 0 where
  pub name : one.name.now ≡ other.name.now
  pub upstream : one.upstream ≡ other.upstream

-- Both have the same name, and messages are written in the same way.
pub record SameComparison (one other : Comparison) : Type 0 where
  pub name : one.name.now ≡ other.name.now
  pub writing : one.writing ≡ other.writing

-- Both are the same command, with the same words.
abbrev pub SameCommand : Command → Command → Type 0
SameCommand (Port one) (Port other) = one ≡ other
SameCommand (Rp one) (Rp other) = one ≡ other
SameCommand (Via one) (Via other) = one ≡ other
SameCommand (Limit one) (Limit other) = one ≡ other
SameCommand Start Start = ⊤
SameCommand (Run one) (Run other) = one ≡ other
SameCommand (Arrival one) (Arrival other) = SamePacket one other
SameCommand Now Now = ⊤
SameCommand Next Next = ⊤
SameCommand State State = ⊤
SameCommand Wants Wants = ⊤
SameCommand Neighbours Neighbours = ⊤
SameCommand (Messages one) (Messages other) = one ≡ other
SameCommand (Keep one) (Keep other) = SameKept one other
SameCommand (Change one) (Change other) = SameComparison one other
SameCommand (Same one) (Same other) = SameComparison one other
SameCommand Reset Reset = ⊤
SameCommand one other = ⊥

-- Both are the same fault, with the same word.
abbrev pub SameFault : WordsFault → WordsFault → Type 0
SameFault (Word one) (Word other) = one.now ≡ other.now
SameFault (Address one) (Address other) = one.now ≡ other.now
SameFault Hex Hex = ⊤
SameFault one other = ⊥

-- ---- laws

-- A line states at most one command.
abbrev pub OneCommand : Type 0
OneCommand = (line : List ℕ) (one other : Command) → States line one → States line other →
    SameCommand one other

-- A line has at most one fault of its words.
abbrev pub OneWordsFault : Type 0
OneWordsFault = (line : List ℕ) (one other : WordsFault) → IsWordsFault line one →
    IsWordsFault line other → SameFault one other

-- A line that states a command has no fault of its words.
abbrev pub NoFaultIfStated : Type 0
NoFaultIfStated = (line : List ℕ) (command : Command) (fault : WordsFault) → States line command →
    IsWordsFault line fault → ⊥

-- A line that begins a text states at most one sender.
abbrev pub OneSender : Type 0
OneSender = (line : List ℕ) (one other : Sender) → StatesSender line one →
    StatesSender line other → one ≡ other

-- A line that begins a text has at most one fault of its words.
abbrev pub OneSenderFault : Type 0
OneSenderFault = (line : List ℕ) (one other : WordsFault) → IsSenderFault line one →
    IsSenderFault line other → SameFault one other

-- A line that states a sender has no fault of its words.
abbrev pub NoSenderFaultIfStated : Type 0
NoSenderFaultIfStated = (line : List ℕ) (sender : Sender) (fault : WordsFault) →
    StatesSender line sender → IsSenderFault line fault → ⊥
