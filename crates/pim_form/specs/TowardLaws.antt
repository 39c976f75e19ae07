-- The statements of the laws in `src/toward_laws.rt`: what is requested from one upstream
-- neighbour, and the messages that request it.
use Rattle.std.specs.Prelude.{◌≡◌, ◌↔◌, ℕ, true, List, [], ◌∷◌, Option}
use Rattle.std.specs.Option.{is_some}
use Rattle.pim_addr.specs.declared.family.AddressFamily.{AddressFamily}
use Rattle.pim_addr.specs.Address.{IsSourceAddress, IsGroupAddress}
use Rattle.pim_addr.specs.RouteLaws.{all_addresses}
use Rattle.pim_addr.specs.Routes.{RouteTable, IsRouteTable, rp_of}
use Rattle.pim_down.specs.declared.machines.key.What.TheVariants.{Star}
use Rattle.pim_down.specs.Time.{Downstream}
use Rattle.pim_form.specs.declared.tree.Tree.{Tree}
use Rattle.pim_form.specs.Wants.{is_joined, state_on, wants}
use Rattle.pim_form.specs.NormalForm.{Demand, Agree, IsFormOf, GroupForm, IsNormal, form_wants}
use Rattle.pim_form.specs.Messages.{Writing, IsWriting, AreCanonical}
use Rattle.pim_form.specs.Toward.{via_of, rpf_neighbour, is_neighbour, toward, is_toward}

-- ---- the test of a form

-- The neighbour is the upstream neighbour of everything that is wanted.
abbrev pub GetsAll : AddressFamily → (rps via : List ℕ → Option (List ℕ)) → List ℕ → Demand → Type 0
GetsAll family rps via neighbour demand = (source group : List ℕ) (tree : Tree) →
    IsSourceAddress family source → IsGroupAddress family group → demand source group tree ≡ true →
    is_neighbour neighbour (rpf_neighbour rps via source group tree) ≡ true

-- A normal form passes `is_toward` exactly if the neighbour is the upstream neighbour of everything
-- that the form wants.
abbrev pub TestFindsTheNeighbour : Type 0
TestFindsTheNeighbour = (family : AddressFamily) (rps via : List ℕ → Option (List ℕ)) (neighbour : List ℕ)
    (form : List GroupForm) → IsNormal family form →
    (is_toward rps via neighbour form ≡ true) ↔ GetsAll family rps via neighbour (form_wants form)

-- ---- what is requested from a neighbour under a route table

-- What the machines want, restricted to what is requested from this neighbour.
abbrev pub demand_toward : AddressFamily → RouteTable → List ℕ → Downstream → Demand
demand_toward family table neighbour state =
    toward (rp_of family table) (via_of family table) neighbour (wants state)

-- Each group with a port in joins(*,G) has an RP.
abbrev pub StarsHaveRps : AddressFamily → RouteTable → Downstream → Type 0
StarsHaveRps family table state = (port : ℕ) (group : List ℕ) → IsGroupAddress family group →
    is_joined (state_on state.records port group Star) ≡ true → is_some (rp_of family table group) ≡ true

-- Everything that the machines want is requested from the neighbour: both demands agree, and a
-- normal form of one is that of the other.
pub record DemandsAll (family : AddressFamily) (table : RouteTable) (neighbour : List ℕ) (state : Downstream)
    : Type 0 where
  pub agree : Agree family (demand_toward family table neighbour state) (wants state)
  pub forms : (form : List GroupForm) →
      IsFormOf family (demand_toward family table neighbour state) form ↔ IsFormOf family (wants state) form
  pub one : (demanded wanted : List GroupForm) → IsFormOf family (demand_toward family table neighbour state) demanded →
      IsFormOf family (wants state) wanted → demanded ≡ wanted

-- If one row of the table leads all addresses to one neighbour, and each star has an RP, everything
-- is requested from that neighbour.
abbrev pub OneRowHasOneNeighbour : Type 0
OneRowHasOneNeighbour = (family : AddressFamily) (table : RouteTable) (neighbour : List ℕ) (state : Downstream) →
    IsRouteTable family table → table.vias ≡ (all_addresses family, neighbour) ∷ [] → StarsHaveRps family table state →
    DemandsAll family table neighbour state

-- By one writer and under one table, two states have the same canonical messages to an upstream
-- neighbour exactly if they request the same from it.
abbrev pub SameMessagesSameDemandToward : Type 0
SameMessagesSameDemandToward = (family : AddressFamily) (table : RouteTable) (writing : Writing) (this that : Downstream)
    (one other : List GroupForm) (first second : List (List ℕ)) →
    IsRouteTable family table → IsWriting family writing →
    IsFormOf family (demand_toward family table writing.upstream this) one →
    IsFormOf family (demand_toward family table writing.upstream that) other →
    AreCanonical family writing (rp_of family table) one first →
    AreCanonical family writing (rp_of family table) other second →
    (first ≡ second)
    ↔ Agree family (demand_toward family table writing.upstream this) (demand_toward family table writing.upstream that)
