-- Which packets of a capture are taken, by their origins.
use Rattle.std.specs.Prelude.{◌≡◌, ℕ, Bool, true, false, ◌&&◌, ◌==◌, not, List, [], ◌++◌, Option, None, Some, Result, Ok, is_none, ⊤}
use Rattle.std.specs.Prelude.{if◌then◌else◌}
use Rattle.pim_addr.specs.Faults.{fault_if, judged}
use Rattle.pim_capture.specs.declared.interface.InterfaceChoice.{InterfaceChoice}
use Rattle.pim_capture.specs.declared.interface.InterfaceChoice.TheVariants.{Number, Name}
use Rattle.pim_capture.specs.declared.interface.InterfaceName.{InterfaceName}
use Rattle.pim_capture.specs.declared.vlan.Vlan.{Vlan}
use Rattle.pim_capture.specs.Names.{is_same_name}
use Rattle.pim_container.specs.declared.event.Origin.{Origin}
use Rattle.pim_container.specs.declared.choice.Choice.{Choice}
use Rattle.pim_container.specs.declared.choice.Chooser.{Chooser}
use Rattle.pim_container.specs.declared.choice.Mixed.{Mixed}
use Rattle.pim_container.specs.declared.choice.Mixed.TheVariants.{Numbers, Names, Vlans}

-- The choice of a chooser.
abbrev pub choice_of : Chooser → Choice
choice_of chooser = chooser.choice

-- The origin of the first packet that a chooser took.
abbrev pub first_of : Chooser → Option Origin
first_of chooser = chooser.first

-- The number by which the interface of a packet is chosen: its index in a cooked header of version
-- 2, otherwise its number in the section of a pcapng file.
abbrev pub number_of : Origin → ℕ
number_of origin = if origin.index == 0 then origin.interface else origin.index

-- The name of an interface is this one.
abbrev pub has_name : InterfaceName → Option InterfaceName → Bool
has_name name None = false
has_name name (Some other) = is_same_name name other

-- The packet is of the chosen interface. `None` chooses each.
abbrev pub fits : Option InterfaceChoice → Origin → Bool
fits None origin = true
fits (Some (Number number)) origin = number == number_of origin
fits (Some (Name name)) origin = has_name name origin.name

abbrev pub is_same_vlan : Vlan → Vlan → Bool
is_same_vlan one other = one.outer == other.outer && one.inner == other.inner

abbrev pub fits_vlan : Option Vlan → Vlan → Bool
fits_vlan None vlan = true
fits_vlan (Some chosen) vlan = is_same_vlan chosen vlan

-- A frame of this origin is of the chosen link.
abbrev pub is_of_link : Choice → Origin → Bool
is_of_link choice origin = fits_vlan choice.vlan origin.vlan && fits choice.interface origin

-- A packet of this origin is chosen. A copy of another packet never is.
abbrev pub is_chosen : Choice → Origin → Bool
is_chosen choice origin = not origin.is_copy && is_of_link choice origin

-- A packet of this origin is taken, and so may be packets of other links.
abbrev pub mixes : Choice → Origin → Bool
mixes choice origin = choice.mixes_links && is_chosen choice origin

-- The packets of these origins are of interfaces with two names.
abbrev pub mixed_names : Option InterfaceName → Option InterfaceName → List Mixed
mixed_names (Some first) (Some other) = fault_if (not (is_same_name first other)) (Names first other)
mixed_names first other = []

-- They have two indexes in cooked headers.
abbrev pub mixed_indexes : Origin → Origin → List Mixed
mixed_indexes first origin = fault_if (not (first.index == origin.index)) (Numbers first.index origin.index)

-- They are of two interfaces, by number or index. The fault shows the numbers by which these are
-- chosen, or where they are equal those in which they differ.
abbrev pub mixed_numbers : Origin → Origin → List Mixed
mixed_numbers first origin =
    fault_if (not (number_of first == number_of origin)) (Numbers (number_of first) (number_of origin))
    ++ fault_if (not (first.interface == origin.interface)) (Numbers first.interface origin.interface)
    ++ mixed_indexes first origin

-- Both are of named interfaces, and the names are the same.
abbrev pub are_named_alike : Option InterfaceName → Option InterfaceName → Bool
are_named_alike None other = false
are_named_alike (Some first) other = has_name first other

-- They are of two interfaces, where none is chosen. Interfaces of one name are one, whatever their
-- numbers, since tools that merge files describe an interface again. A capture of all interfaces has
-- one name, and the index in a cooked header tells them apart.
abbrev pub mixed_unchosen : Origin → Origin → List Mixed
mixed_unchosen first origin =
    if are_named_alike first.name origin.name then mixed_indexes first origin
    else mixed_names first.name origin.name ++ mixed_numbers first origin

-- They are of two interfaces, where this choice leaves that open. A number names an interface of its
-- section, so it may mean two names. A name leaves open the index in a cooked header.
abbrev pub mixed_interfaces : Option InterfaceChoice → Origin → Origin → List Mixed
mixed_interfaces None first origin = mixed_unchosen first origin
mixed_interfaces (Some (Number number)) first origin = mixed_names first.name origin.name
mixed_interfaces (Some (Name name)) first origin = mixed_indexes first origin

-- The packets of these origins have two VLANs.
abbrev pub mixed_vlans : Origin → Origin → List Mixed
mixed_vlans first origin = fault_if (not (is_same_vlan first.vlan origin.vlan)) (Vlans first.vlan origin.vlan)

-- What is mixed in two packets of these origins, where none is chosen: first interfaces, then
-- VLANs. Nothing is where links may be mixed.
abbrev pub mixed : Choice → Origin → Origin → List Mixed
mixed choice first origin =
    if choice.mixes_links then [] else mixed_interfaces choice.interface first origin
    ++ (if is_none choice.vlan then mixed_vlans first origin else [])

-- A chosen packet is taken if it is of one link with the first one.
abbrev pub judge_second : Choice → Origin → Origin → Result Bool Mixed
judge_second choice first origin = judged (mixed choice first origin) true

abbrev pub judge_chosen : Choice → Option Origin → Origin → Result Bool Mixed
judge_chosen choice None origin = Ok true
judge_chosen choice (Some first) origin = judge_second choice first origin

-- Whether a packet is taken, after a first one of that origin.
abbrev pub judge_origin : Choice → Option Origin → Origin → Result Bool Mixed
judge_origin choice first origin =
    if is_chosen choice origin then judge_chosen choice first origin else Ok false

-- The origin of the first packet that was taken, after this one.
abbrev pub first_or : Option Origin → Origin → Option Origin
first_or None origin = Some origin
first_or (Some first) origin = Some first

abbrev pub first_after : Choice → Option Origin → Origin → Option Origin
first_after choice first origin = if is_chosen choice origin then first_or first origin else first

-- The number of the chosen interface doesn't mean two names.
abbrev pub MeansOneName : Option Origin → Origin → Type 0
MeansOneName None origin = ⊤
MeansOneName (Some first) origin = mixed_names first.name origin.name ≡ []

-- Where a VLAN and the number of an interface are chosen, and that means one name, packets are never
-- mixed, and those that are taken are those of the choice.
abbrev pub OneLinkIsAFilter : Type 0
OneLinkIsAFilter = (choice : Choice) (first : Option Origin) (origin : Origin) (vlan : Vlan) (number : ℕ)
    → choice.vlan ≡ Some vlan → choice.interface ≡ Some (Number number) → MeansOneName first origin
    → judge_origin choice first origin ≡ Ok (is_chosen choice origin)

-- Where links may be mixed, packets are never mixed, and those that are taken are those of the choice.
abbrev pub MixedLinksAreAFilter : Type 0
MixedLinksAreAFilter = (choice : Choice) (first : Option Origin) (origin : Origin)
    → choice.mixes_links ≡ true → judge_origin choice first origin ≡ Ok (is_chosen choice origin)
