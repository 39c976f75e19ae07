-- The body of the message that a text states, and why there is none.
use Rattle.std.specs.Prelude.{◌≡◌, ◌<◌, ◌⊎◌, ℕ, Bool, true, false, List, length}
use Rattle.pim_addr.specs.declared.family.AddressFamily.{AddressFamily}
use Rattle.pim_addr.specs.declared.family.AddressFamily.TheVariants.{Ipv4, Ipv6}
use Rattle.pim_frame.specs.declared.frame.MessageType.{MessageType}
use Rattle.pim_frame.specs.declared.frame.MessageType.TheVariants as kind
use Rattle.pim_hello.specs.Hello.{Hello}
use Rattle.pim_hello.specs.Spelling.{spelling_of}
use Rattle.pim_jp.specs.Message.{Message}
use Rattle.pim_jp.specs.Canonical.{canonical}
use Rattle.pim_text.specs.declared.line.Stated.{Stated}
use Rattle.pim_text.specs.declared.message.TextFault.{TextFault}
use Rattle.pim_text.specs.declared.message.TextFault.TheVariants.{Line, Family, TooLong, Memory}
use Rattle.pim_text.specs.declared.spelling.SpellFault.{SpellFault}
use Rattle.pim_text.specs.declared.spelling.SpellFault.TheVariants as of_body
use Rattle.pim_text.specs.Value.{TextValue, hello_in, message_in}
use Rattle.pim_text.specs.Families.{value_is_in}
use Rattle.pim_text.specs.Read.{States, IsWrongLine}
use Rattle.pim_text.specs.Spelled.{StatesMessage}
use Rattle.pim_text.specs.SpelledHello.{StatesHello}

-- What was read: each address is of this family.
abbrev pub stated_in : AddressFamily → Stated → Bool
stated_in Ipv4 stated = stated.all_ipv4
stated_in Ipv6 stated = stated.all_ipv6

-- The text states a Hello, or a Join/Prune message, of this family, and the body is the canonical
-- spelling of that message.
abbrev pub IsSpelled : AddressFamily → List ℕ → Bool → List ℕ → Type 0
IsSpelled family text true body = (hello : Hello) × States text (hello_in family hello) × (body ≡ spelling_of family hello)
IsSpelled family text false body = (message : Message) × States text (message_in family message) × (body ≡ canonical family message)

-- The type of a message in its header: Hello if it is one, else Join/Prune.
abbrev pub type_of : Bool → MessageType
type_of true = kind.Hello
type_of false = kind.JoinPrune

-- The body of the message that the text states has more than 65,532 bytes.
abbrev pub IsLong : AddressFamily → List ℕ → Type 0
IsLong family text =
    ((hello : Hello) × States text (hello_in family hello) × (65532 < length (spelling_of family hello)))
    ⊎ ((message : Message) × States text (message_in family message) × (65532 < length (canonical family message)))

-- The text states a Hello, or a Join/Prune message, of this family.
abbrev pub StatesOne : AddressFamily → List ℕ → Type 0
StatesOne family text = StatesHello family text ⊎ StatesMessage family text

-- Why there is no body: a wrong line, an address that isn't of the family, or a body that is too
-- long. Memory is asked for, so refused, only where the text states a message of the family.
abbrev pub IsTextFault : AddressFamily → List ℕ → TextFault → Type 0
IsTextFault family text (Line number) = IsWrongLine text number
IsTextFault family text Family = (value : TextValue) × States text value × (value_is_in family value ≡ false)
IsTextFault family text TooLong = IsLong family text
IsTextFault family text Memory = StatesOne family text

-- The fault of writing a body, as one of a text.
abbrev pub reported : SpellFault → TextFault
reported of_body.TooLong = TooLong
reported of_body.Memory = Memory
