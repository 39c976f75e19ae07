-- Slots for the first different items of a sequence. The free ones are last.
use Rattle.std.specs.Prelude.{ℕ, Bool, true, false, ◌&&◌, ◌==◌, List, [], ◌∷◌, ◌++◌, length, drop, replicate}
use Rattle.std.specs.Prelude.{Option, None, Some, if◌then◌else◌}
use Rattle.std.specs.List.{list_any}
use Rattle.pim_capture.specs.declared.incomplete.RecordPlace.{RecordPlace}
use Rattle.pim_capture.specs.declared.interface.InterfaceChoice.{InterfaceChoice}
use Rattle.pim_capture.specs.declared.interface.InterfaceChoice.TheVariants.{Number, Name}
use Rattle.pim_capture.specs.declared.link.Link.{Link}
use Rattle.pim_capture.specs.Names.{is_same_name}
use Rattle.pim_container.specs.Choice.{is_same_vlan}

-- The slots after an item is added. The first free slot takes it, unless a slot before that has it.
-- If no slot is free, they stay.
unfoldable pub added : {A : Type 0} → (A → A → Bool) → A → List (Option A) → List (Option A)
added same item [] = []
added same item (None ∷ slots) = Some item ∷ slots
added same item (Some held ∷ slots) = Some held ∷ (if same item held then slots else added same item slots)

-- A slot takes an item if it is free or already has that item.
abbrev pub takes : {A : Type 0} → (A → Bool) → Option A → Bool
takes is_it None = true
takes is_it (Some held) = is_it held

-- A slot takes the item.
abbrev pub fits : {A : Type 0} → (A → A → Bool) → A → List (Option A) → Bool
fits same item slots = list_any (takes (same item)) slots

-- An address in a field of 16 bytes, with zeros after the bytes of IPv4.
abbrev pub field_of : List ℕ → List ℕ
field_of address = address ++ drop (length address) (replicate 16 0)

-- Two interfaces are chosen by the same word.
abbrev pub same_interface : InterfaceChoice → InterfaceChoice → Bool
same_interface (Number one) (Number other) = one == other
same_interface (Name one) (Name other) = is_same_name one other
same_interface _ _ = false

-- Two links are the same.
abbrev pub same_link : Link → Link → Bool
same_link one other = is_same_vlan one.vlan other.vlan && same_interface one.interface other.interface

-- Two records have one place.
abbrev pub same_place : RecordPlace → RecordPlace → Bool
same_place one other = one.file == other.file && one.«record» == other.«record»
