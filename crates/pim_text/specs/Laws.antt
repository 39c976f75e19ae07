-- The laws of texts and of the messages that they state.
use Rattle.std.specs.Prelude.{◌≡◌, true, ℕ, List, []}
use Rattle.std.specs.List.{AllByRecursion}
use Rattle.pim_addr.specs.Address.{AreBytes, IsAddress}
use Rattle.pim_hello.specs.Hello.{Hello}
use Rattle.pim_hello.specs.Spelling.{ParametersFit}
use Rattle.pim_jp.specs.Message.{Message, message_of}
use Rattle.pim_jp.specs.Canonical.{IsMessage}
use Rattle.pim_jp.specs.Faults.{faults}
use Rattle.pim_addr.specs.declared.family.AddressFamily.{AddressFamily}
use Rattle.pim_text.specs.Value.{TextValue, a_hello, a_message, hello_in, message_in}
use Rattle.pim_text.specs.JoinPruneText.{message_text}
use Rattle.pim_text.specs.PartialText.{partial_text}
use Rattle.pim_text.specs.HelloText.{hello_text}
use Rattle.pim_text.specs.Families.{value_is_in}
use Rattle.pim_text.specs.Read.{States}
use Rattle.pim_text.specs.Spelled.{StatesMessage}
use Rattle.pim_text.specs.SpelledHello.{StatesHello}

-- The text states a message of this kind and family.
abbrev pub StatesIn : AddressFamily → List ℕ → TextValue → Type 0
StatesIn family text (a_hello hello) = StatesHello family text
StatesIn family text (a_message message) = StatesMessage family text

-- A text whose addresses are all of one family states a message of that family.
abbrev pub StatedInItsFamily : Type 0
StatedInItsFamily = (family : AddressFamily) (text : List ℕ) (value : TextValue) → States text value
    → value_is_in family value ≡ true → StatesIn family text value

-- The text that is written of a Join/Prune message states that message.
abbrev pub MessageTextStates : Type 0
MessageTextStates = (family : AddressFamily) (message : Message) → IsMessage family message
    → States (message_text family message) (message_in family message)

-- The text that is written of a Hello states that Hello.
abbrev pub HelloTextStates : Type 0
HelloTextStates = (family : AddressFamily) (hello : Hello) → ParametersFit hello.parameters
    → AllByRecursion (IsAddress family) hello.addresses → States (hello_text family hello) (hello_in family hello)

-- The text of a whole body without a fault is that of its message.
abbrev pub WholeBodyIsItsMessage : Type 0
WholeBodyIsItsMessage = (family : AddressFamily) (body : List ℕ) → AreBytes body → faults family body ≡ []
    → partial_text family body ≡ message_text family (message_of family body)
