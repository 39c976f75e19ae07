-- What the lines of a Hello say.
use Rattle.std.specs.Prelude.{◌≡◌, ◌<◌, ◌≤◌, ◌*◌, ℕ, ⊤, List, [], ◌∷◌, length, Some}
use Rattle.pim_addr.specs.declared.family.AddressFamily.{AddressFamily}
use Rattle.pim_addr.specs.Encoded.{unicast_length}
use Rattle.pim_hello.specs.Hello.{Parameters, Hello}
use Rattle.pim_hello.specs.Spelling.{row_spelled, spelling_of}
use Rattle.pim_text.specs.declared.line.Line.{Line}
use Rattle.pim_text.specs.declared.line.Line.TheVariants.{Holdtime, Delays, Priority, Generation, Secondary}
use Rattle.pim_text.specs.declared.spelling.SpellFault.{SpellFault}
use Rattle.pim_text.specs.declared.spelling.SpellFault.TheVariants.{TooLong, Memory}
use Rattle.pim_text.specs.Value.{hello_in}
use Rattle.pim_text.specs.Read.{States}
use Rattle.pim_lines.specs.AnyAddress.{address_bytes}

-- The options with that of the line.
abbrev pub with_line : Line → Parameters → Parameters
with_line (Holdtime seconds) p = record { holdtime = Some seconds; lan = p.lan; priority = p.priority; generation = p.generation }
with_line (Delays d) p = record {
  holdtime = p.holdtime;
  lan = Some (record { t = d.t; propagation = d.propagation; override_ms = d.override_ms });
  priority = p.priority;
  generation = p.generation;
}
with_line (Priority number) p = record { holdtime = p.holdtime; lan = p.lan; priority = Some number; generation = p.generation }
with_line (Generation number) p = record { holdtime = p.holdtime; lan = p.lan; priority = p.priority; generation = Some number }
with_line line p = p

-- The secondary address of the line, if it is one.
abbrev pub line_addresses : Line → List (List ℕ)
line_addresses (Secondary address) = address_bytes address ∷ []
line_addresses line = []

-- The propagation delay of the line, if it has one, fits into 15 bits.
abbrev pub DelaysFit : Line → Type 0
DelaysFit (Delays d) = d.propagation ≤ 32767
DelaysFit line = ⊤

-- The encoded addresses have the length of as many addresses of the family.
abbrev pub HaveLength : AddressFamily → List (List ℕ) → Type 0
HaveLength family addresses = length (row_spelled family addresses) ≡ length addresses * unicast_length family

-- A Hello of these options and secondary addresses.
abbrev pub hello_of : Parameters → List (List ℕ) → Hello
hello_of parameters addresses = record { parameters = parameters; addresses = addresses }

-- The text states a Hello of this family.
abbrev pub StatesHello : AddressFamily → List ℕ → Type 0
StatesHello family text = (hello : Hello) × States text (hello_in family hello)

-- The body is the one in which the Hello is written that the text states.
abbrev pub SpellsHello : AddressFamily → List ℕ → List ℕ → Type 0
SpellsHello family text body = (hello : Hello) → States text (hello_in family hello) → body ≡ spelling_of family hello

-- Why the body of this Hello is not written: it is too long, or memory ran out.
abbrev pub IsTooLong : AddressFamily → Hello → SpellFault → Type 0
IsTooLong family hello TooLong = 65532 < length (spelling_of family hello)
IsTooLong family hello Memory = ⊤

-- Why the body of the Hello that the text states is not written.
abbrev pub IsHelloFault : AddressFamily → List ℕ → SpellFault → Type 0
IsHelloFault family text fault = (hello : Hello) → States text (hello_in family hello) → IsTooLong family hello fault
