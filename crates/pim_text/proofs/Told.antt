-- What a text that was read states, and why it has no body.
use Rattle.pim_text.proofs.Words.{◌≡◌, ◌∙◌, sym, inl, inr, ℕ, true, false, List, false≢true, AddressFamily, Ipv4, Ipv6, TextValue}
use Rattle.pim_text.proofs.Words.{a_hello, a_message, value_is_in, States, is_hello, IsRead, StatesMessage, IsMessageFault}
use Rattle.pim_text.proofs.Words.{StatesHello, IsHelloFault, stated_in, IsTextFault, reported, StatesIn, StatedInItsFamily}
use Rattle.pim_text.specs.declared.line.Stated.{Stated}
use Rattle.pim_text.specs.declared.spelling.SpellFault.{SpellFault}
use Rattle.pim_text.specs.declared.spelling.SpellFault.TheVariants as of_body

pub hello_fault : (family : AddressFamily) (text : List ℕ) (fault : SpellFault) → StatesHello family text → IsHelloFault family text fault → IsTextFault family text (reported fault)
hello_fault family text of_body.TooLong (hello, states) is = inl (hello, states, is hello states)
hello_fault family text of_body.Memory states is = inl states

pub message_fault : (family : AddressFamily) (text : List ℕ) (fault : SpellFault) → StatesMessage family text → IsMessageFault family text fault → IsTextFault family text (reported fault)
message_fault family text of_body.TooLong (message, states) is = inr (message, states, is message states)
message_fault family text of_body.Memory states is = inr states

same_family : (family : AddressFamily) (text : List ℕ) (stated : Stated) (r : IsRead text stated) → stated_in family stated ≡ value_is_in family r.value
same_family Ipv4 text stated r = r.ipv4
same_family Ipv6 text stated r = r.ipv6

pub other_family : (family : AddressFamily) (text : List ℕ) (stated : Stated) → IsRead text stated → stated_in family stated ≡ false → (value : TextValue) × States text value × (value_is_in family value ≡ false)
other_family family text stated r e = (r.value, r.states, sym (same_family family text stated r) ∙ e)

hello_if : (family : AddressFamily) (text : List ℕ) (value : TextValue) → StatesIn family text value → is_hello value ≡ true → StatesHello family text
hello_if family text (a_hello hello) is e = is
hello_if family text (a_message message) is e = absurd (false≢true e)

message_if : (family : AddressFamily) (text : List ℕ) (value : TextValue) → StatesIn family text value → is_hello value ≡ false → StatesMessage family text
message_if family text (a_hello hello) is e = absurd (false≢true (sym e))
message_if family text (a_message message) is e = is

module _ (law : StatedInItsFamily) (family : AddressFamily) (text : List ℕ) (stated : Stated) (r : IsRead text stated) (within : stated_in family stated ≡ true) where
  here : StatesIn family text r.value
  here = law family text r.value r.states (sym (same_family family text stated r) ∙ within)

  pub a_hello_here : stated.is_hello ≡ true → StatesHello family text
  a_hello_here e = hello_if family text r.value here (sym r.kind ∙ e)

  pub a_message_here : stated.is_hello ≡ false → StatesMessage family text
  a_message_here e = message_if family text r.value here (sym r.kind ∙ e)
