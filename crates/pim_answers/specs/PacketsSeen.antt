-- What contracts of private functions say of packets.
use Rattle.std.specs.Prelude.{◌≡◌, ◌⊎◌, ℕ, ◌<◌, ◌≤◌, Bool, ◌||◌, not, List, codes, Option, Result, Ok, Err}
use Rattle.pim_addr.specs.declared.family.AddressFamily.{AddressFamily}
use Rattle.pim_lines.specs.declared.either.AnyAddress.{AnyAddress}
use Rattle.pim_text.specs.Spell.{IsLong, stated_in}
use Rattle.pim_lines.specs.AnyAddress.{address_bytes}
use Rattle.pim_answers.specs.declared.fault.AnswerFault.{AnswerFault}
use Rattle.pim_answers.specs.declared.packets.AnswerEnds.{AnswerEnds}
use Rattle.pim_answers.specs.declared.packets.FromText.{FromText}
use Rattle.pim_answers.specs.Fault.{fault_words}
use Rattle.pim_answers.specs.Families.{differ_from}
use Rattle.pim_answers.specs.Packets.{addresses_of, destination_of, port_words}

-- The port is this one, if there are more than that, else its words are the fault.
abbrev pub IsPort : ℕ → ℕ → Result ℕ AnswerFault → Type 0
IsPort port count (Ok given) = (given ≡ port) × (port < count)
IsPort port count (Err fault) = (count ≤ port) × (fault_words fault ≡ port_words port)

module _ {A : Type 0} (bytes_of : A → List ℕ) where
  -- The source and the destination are these.
  abbrev pub AreEnds : AnyAddress → AnyAddress → AnswerEnds A → Type 0
  AreEnds source destination ends =
      (bytes_of ends.source ≡ address_bytes source) × (bytes_of ends.destination ≡ address_bytes destination)

module _ {A : Type 0} (family : AddressFamily) (bytes_of : A → List ℕ) where
  -- The source and the destination are these; without a destination ALL-PIM-ROUTERS.
  abbrev pub AreEndsOf : AnyAddress → Option AnyAddress → AnswerEnds A → Type 0
  AreEndsOf source destination ends =
      (bytes_of ends.source ≡ address_bytes source) × (bytes_of ends.destination ≡ destination_of family destination)

-- Some address of the words or of the text isn't of the family.
abbrev pub has_other_family : AddressFamily → FromText → Bool
has_other_family family from = not (stated_in family from.stated) || differ_from family (addresses_of from.sender)

-- Why a text has no message: it would be too long, or memory is refused.
abbrev pub IsFillFault : AddressFamily → List ℕ → AnswerFault → Type 0
IsFillFault family text fault =
    IsLong family text × (fault_words fault ≡ codes "text too-long") ⊎ (fault_words fault ≡ codes "memory")
