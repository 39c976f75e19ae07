-- What is made of the text of a message, and why it isn't made.
use Rattle.std.specs.Prelude.{◌≡◌, ◌≤◌, ℕ, Bool, true, false, List, [], ◌∷◌, ◌++◌, length, map}
use Rattle.pim_addr.specs.declared.family.AddressFamily.{AddressFamily}
use Rattle.pim_frame.specs.Frame.{Content, hello, join_prune, other, content, frame_faults}
use Rattle.pim_frame.specs.Seal.{IsSealed}
use Rattle.pim_hello.specs.Hello.{Hello}
use Rattle.pim_hello.specs.Faults.{faults as hello_option_faults}
use Rattle.pim_hello.specs.Spelling.{spelling_of}
use Rattle.pim_hello.specs.Value.{hello_of}
use Rattle.pim_jp.specs.Canonical.{canonical}
use Rattle.pim_jp.specs.Faults.{faults}
use Rattle.pim_jp.specs.Message.{Message, message_of}
use Rattle.pim_text.specs.HelloText.{hello_text}
use Rattle.pim_text.specs.JoinPruneText.{message_text}
use Rattle.pim_text.specs.Read.{States, IsWrongLine}
use Rattle.pim_text.specs.Spell.{IsTextFault, IsLong, StatesOne, type_of}
use Rattle.pim_text.specs.Value.{TextValue, hello_in, message_in}
use Rattle.pim_text.specs.declared.message.TextFault.{TextFault}
use Rattle.pim_text.specs.declared.message.TextFault.TheVariants as of_text
use Rattle.pim_text.specs.declared.build.fault.BuildFault.{BuildFault}
use Rattle.pim_text.specs.declared.build.fault.BuildFault.TheVariants.{Read, TooLong, Line, Family, Frame, Hello as of_hello, JoinPrune, Memory}

-- ---- the messages of one family that have a text

-- A Hello or a Join/Prune message.
pub data Value : Type 0 where
  a_hello : Hello → Value
  a_message : Message → Value

-- The message, as a text states it.
abbrev pub stated : AddressFamily → Value → TextValue
stated family (a_hello value) = hello_in family value
stated family (a_message value) = message_in family value

-- The message is a Hello.
abbrev pub is_hello : Value → Bool
is_hello (a_hello value) = true
is_hello (a_message value) = false

-- The body of the message in its canonical spelling.
abbrev pub body_of : AddressFamily → Value → List ℕ
body_of family (a_hello value) = spelling_of family value
body_of family (a_message value) = canonical family value

-- The text that is written of the message.
abbrev pub text_of : AddressFamily → Value → List ℕ
text_of family (a_hello value) = hello_text family value
text_of family (a_message value) = message_text family value

-- ---- the bytes

-- These are the bytes of a message from `source` to `destination`: its body in the canonical
-- spelling, after a header with the only correct checksum below 65,535.
abbrev pub IsInBytes : AddressFamily → List ℕ → List ℕ → Value → List ℕ → Type 0
IsInBytes family source destination value message =
    IsSealed family source destination (type_of (is_hello value)) (body_of family value) message

-- The faults that a receiver finds in the body of a message.
abbrev pub content_faults : AddressFamily → Content → List BuildFault
content_faults family (hello body) = map of_hello (hello_option_faults body)
content_faults family (join_prune body) = map JoinPrune (faults family body)
content_faults family (other kind) = []

-- The faults that a receiver finds in a message: those of its header, then those of its body.
abbrev pub message_faults : AddressFamily → List ℕ → List ℕ → List ℕ → List BuildFault
message_faults family source destination message =
    map Frame (frame_faults family source destination message) ++ content_faults family (content message)

-- The receiver of a body reads this message.
abbrev pub IsReadAs : AddressFamily → Value → Content → Type 0
IsReadAs family (a_hello value) (hello body) = hello_of family body ≡ value
IsReadAs family (a_message value) (join_prune body) = message_of family body ≡ value
IsReadAs family value content = ⊥

-- The text states a message. These are its bytes, in which a receiver finds no fault and reads that
-- message.
pub record IsBuilt (family : AddressFamily) (source destination text message : List ℕ) : Type 0 where
  pub value : Value
  pub states : States text (stated family value)
  pub bytes : IsInBytes family source destination value message
  pub size : length message ≤ 65536
  pub accepted : message_faults family source destination message ≡ []
  pub read : IsReadAs family value (content message)

-- ---- why there are none

-- The text states a message, and this is the first fault that a receiver finds in its bytes.
pub record IsRefused (family : AddressFamily) (source destination text : List ℕ) (fault : BuildFault) : Type 0 where
  pub value : Value
  pub message : List ℕ
  pub states : States text (stated family value)
  pub bytes : IsInBytes family source destination value message
  pub size : length message ≤ 65536
  pub others : List BuildFault
  pub refused : message_faults family source destination message ≡ fault ∷ others

-- Why no message is made of a text: a wrong line, an address that isn't of the family, a message
-- that is too long, or one that a receiver refuses. Memory is refused only where the text states a
-- message of the family.
abbrev pub IsBuildFault : AddressFamily → List ℕ → List ℕ → List ℕ → BuildFault → Type 0
IsBuildFault family source destination text (Line number) = IsWrongLine text number
IsBuildFault family source destination text Family = IsTextFault family text of_text.Family
IsBuildFault family source destination text TooLong = IsLong family text
IsBuildFault family source destination text Read = ⊥
IsBuildFault family source destination text Memory = StatesOne family text
IsBuildFault family source destination text fault = IsRefused family source destination text fault

-- The fault of a text, as one of building.
abbrev pub text_fault : TextFault → BuildFault
text_fault (of_text.Line number) = Line number
text_fault of_text.Family = Family
text_fault of_text.TooLong = TooLong
text_fault of_text.Memory = Memory
