-- The normal form of what a router requests from one upstream neighbour, built from the records of
-- its ports (RFC 7761, 4.1 and 4.5.4 to 4.5.6).
use Rattle.std.specs.Prelude.{◌≡◌, ◌≤◌, ℕ, zero, suc, true, false, ◌&&◌, ◌||◌, not, List, [], length}
use Rattle.std.specs.Option.{is_some}
use Rattle.std.specs.List.{AllByRecursion}
use Rattle.pim_addr.specs.declared.family.AddressFamily.{AddressFamily}
use Rattle.pim_addr.specs.Address.{IsGroupAddress, IsSourceAddress}
use Rattle.pim_addr.specs.Routes.{RouteTable, rp_of}
use Rattle.pim_down.specs.declared.machines.key.What.TheVariants.{Star}
use Rattle.pim_down.specs.Sound.{IsSound}
use Rattle.pim_down.specs.Time.{Downstream}
use Rattle.pim_form.specs.declared.tree.Tree.TheVariants.{Shared, Source}
use Rattle.pim_form.specs.Collect.{of_port, collected}
use Rattle.pim_form.specs.KeptToward.{form_toward}
use Rattle.pim_form.specs.Merge.{merged}
use Rattle.pim_form.specs.NormalForm.{GroupForm, Demand, AreAscending, IsFormOf, groups_of, is_empty, is_listed}
use Rattle.pim_form.specs.Rows.{exceptions_of}
use Rattle.pim_form.specs.Settled.{group_in}
use Rattle.pim_form.specs.Toward.{via_of, star_rpf_neighbour, is_neighbour}
use Rattle.pim_form.specs.TowardLaws.{demand_toward}
use Rattle.pim_form.specs.Units.{units_of, run_groups}
use Rattle.pim_form.specs.Wants.{is_joined, state_on, some_below, wants}

-- The form of what the first `count` ports want, merged port by port.
unfoldable pub form_below : ℕ → Downstream → List GroupForm
form_below zero state = []
form_below (suc count) state = merged (collected (of_port count state)) (form_below count state)

module _ (family : AddressFamily) (table : RouteTable) (neighbour : List ℕ) (state : Downstream) where
  -- The form of what all ports want, restricted to what is requested from this neighbour.
  unfoldable pub demanded_form : List GroupForm
  demanded_form = form_toward (rp_of family table) (via_of family table) neighbour (form_below state.ports state)

  -- What the form has of one group. It has a star if JoinDesired(*,G) is true (RFC 7761, 4.5.4) and
  -- the neighbour is RPF'(*,G). Its exceptions are the valid sources whose inherited_olist(S,G,rpt)
  -- is empty (4.5.6). Its sources are those for which JoinDesired(S,G) is true (4.5.5) and the
  -- neighbour is RPF'(S,G). Local members, asserts, the Keepalive Timer and the SPTbit aren't
  -- modeled. So immediate_olist(*,G) is joins(*,G), and immediate_olist(S,G) is joins(S,G).
  pub record HasDemand (group : List ℕ) (this : GroupForm) : Type 0 where
    pub star : is_some this.star
        ≡ (some_below state.ports (λ port. is_joined (state_on state.records port group Star))
        && is_neighbour neighbour (star_rpf_neighbour (via_of family table) (rp_of family table group)))
    pub exceptions : is_some this.star ≡ true → (source : List ℕ) → IsSourceAddress family source →
        is_listed source (exceptions_of this.star) ≡ not (wants state source group Shared)
    pub sources : (source : List ℕ) → IsSourceAddress family source →
        is_listed source this.sources
        ≡ (wants state source group Source && is_neighbour neighbour (via_of family table source))

  -- The form is the normal form of what is requested from the neighbour. It has of each group what
  -- `HasDemand` says, and no more units than all ports together can have records.
  pub record IsDemandedForm (form : List GroupForm) : Type 0 where
    pub is : IsFormOf family (demand_toward family table neighbour state) form
    pub groups : (group : List ℕ) → IsGroupAddress family group → HasDemand group (group_in group form)
    pub few : length (units_of form) ≤ 6400000

-- The form that the records of a sound state give is the normal form of what is requested.
abbrev pub DemandedFormIsDemanded : Type 0
DemandedFormIsDemanded = (family : AddressFamily) (table : RouteTable) (neighbour : List ℕ) (state : Downstream) →
    IsSound family state → IsDemandedForm family table neighbour state (demanded_form family table neighbour state)

-- The form that the records of a sound state give, merged port by port, is the normal form of what
-- the machines of all ports want.
abbrev pub FormOfAllPortsIsTheirForm : Type 0
FormOfAllPortsIsTheirForm = (family : AddressFamily) (state : Downstream) →
    IsSound family state → IsFormOf family (wants state) (form_below state.ports state)

-- A valid source that the machines of some port want on the shared tree of the group.
pub record SomeSourceWanted (family : AddressFamily) (state : Downstream) (group : List ℕ) : Type 0 where
  pub source : List ℕ
  pub valid : IsSourceAddress family source
  pub wanted : wants state source group Shared ≡ true

-- If joins(*,G) isn't empty, some source is wanted on the shared tree of the group: a port has too
-- few (S,G,rpt) machines to prune all of them.
abbrev pub JoinedStarWantsSomeSource : Type 0
JoinedStarWantsSomeSource = (family : AddressFamily) (state : Downstream) (group : List ℕ) → IsSound family state →
    some_below state.ports (λ port. is_joined (state_on state.records port group Star)) ≡ true →
    SomeSourceWanted family state group

-- What either of two demands has.
abbrev pub either_demand : Demand → Demand → Demand
either_demand one other source group tree = one source group tree || other source group tree

-- The merge of the normal forms of two demands is the normal form of what either has.
abbrev pub MergeIsTheFormOfEither : Type 0
MergeIsTheFormOfEither = (family : AddressFamily) (one other : Demand) (first second : List GroupForm) →
    IsFormOf family one first → IsFormOf family other second →
    IsFormOf family (either_demand one other) (merged first second)

-- A part of a form, ascending and without empty groups, has as many groups as its units belong to.
abbrev pub GroupsAreCounted : Type 0
GroupsAreCounted = (part : List GroupForm) → AreAscending (groups_of part) →
    AllByRecursion (λ this. is_empty this.star this.sources ≡ false) part → run_groups (units_of part) ≡ length part
