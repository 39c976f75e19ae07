-- The statements of the laws in `src/hello_laws.rt`.
use Rattle.std.specs.Prelude.{◌↔◌, List, map, ℕ}
use Rattle.std.specs.List.{AllByRecursion}
use Rattle.pim_addr.specs.declared.family.AddressFamily.{AddressFamily}
use Rattle.pim_addr.specs.Routes.{RouteTable}
use Rattle.pim_hello.specs.Spelling.{ParametersFit}
use Rattle.pim_form.specs.Messages.{Writing, IsWriting}
use Rattle.pim_router.specs.Course.{takes, RouterReport, IsCourse}
use Rattle.pim_router.specs.Packets.{Packet}
use Rattle.pim_router.specs.State.{RouterState, new_router}
use Rattle.pim_mirror.specs.Config.{Neighbour, Fresh, neighbours, setup_of}
use Rattle.pim_mirror.specs.Fits.{Fits}
use Rattle.pim_mirror.specs.Hellos.{AreHellosFrom, HasMet}
use Rattle.pim_mirror.specs.Mirror.{AreHellosOf}

-- Hellos that are written canonically and sealed are read as their senders' parameters.
abbrev pub WrittenHellosAreRead : Type 0
WrittenHellosAreRead = (family : AddressFamily) (neighbours : List Neighbour) (packets : List Packet) →
    AreHellosOf family neighbours packets → AreHellosFrom family neighbours packets

-- A new router that receives the Hellos of the sender and of the other neighbours at the moment 0
-- has met them, where `Fits` holds.
abbrev pub HellosAreHeard : Type 0
HellosAreHeard = (family : AddressFamily) (messages : List (List ℕ)) (writing : Writing) (table : RouteTable)
    (fresh : Fresh) (hellos : List Packet) (reported : List RouterReport) (after : RouterState) → IsWriting family writing →
    Fits messages writing table fresh → AreHellosFrom family (neighbours fresh) hellos →
    IsCourse family (map (λ packet. takes packet) hellos) reported (new_router (setup_of fresh)) after →
    HasMet writing fresh after

-- Neighbours have Hellos exactly if the numbers of each fit into the bits of their options.
abbrev pub NeighboursHaveHellos : Type 0
NeighboursHaveHellos = (family : AddressFamily) (neighbours : List Neighbour) →
    ((packets : List Packet) × AreHellosOf family neighbours packets)
    ↔ AllByRecursion (λ (neighbour : Neighbour). ParametersFit neighbour.hello) neighbours
