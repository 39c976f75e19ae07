-- What is requested from one upstream neighbour. The RP of a group and the neighbour toward an
-- address are functions; both are `None` where there is none.
use Rattle.std.specs.Prelude.{◌≡◌, ℕ, Bool, true, false, ◌&&◌, List, Option, None, Some}
use Rattle.std.specs.Option.{is_some}
use Rattle.std.specs.List.{list_all}
use Rattle.pim_addr.specs.declared.family.AddressFamily.{AddressFamily}
use Rattle.pim_addr.specs.Routes.{RouteTable, via}
use Rattle.pim_form.specs.declared.tree.Tree.{Tree}
use Rattle.pim_form.specs.declared.tree.Tree.TheVariants.{Shared, Source}
use Rattle.pim_form.specs.NormalForm.{Demand, GroupForm, same_address}

-- RPF'(*,G) without asserts (RFC 7761, 4.1): the neighbour toward the RP, if there is an RP.
abbrev pub star_rpf_neighbour : (List ℕ → Option (List ℕ)) → Option (List ℕ) → Option (List ℕ)
star_rpf_neighbour via None = None
star_rpf_neighbour via (Some rp) = via rp

-- The upstream neighbour exists and is this neighbour.
abbrev pub is_neighbour : List ℕ → Option (List ℕ) → Bool
is_neighbour neighbour None = false
is_neighbour neighbour (Some upstream) = same_address upstream neighbour

module _ (rps via : List ℕ → Option (List ℕ)) where
  -- The neighbour from which the traffic of a source to a group is requested: RPF'(*,G) on the
  -- shared tree, RPF'(S,G) on the source's tree, both without asserts (RFC 7761, 4.1).
  abbrev pub rpf_neighbour : List ℕ → List ℕ → Tree → Option (List ℕ)
  rpf_neighbour source group Shared = star_rpf_neighbour via (rps group)
  rpf_neighbour source group Source = via source

  -- The part of a demand that is requested from this neighbour. Traffic without a route isn't
  -- requested.
  abbrev pub toward : List ℕ → Demand → Demand
  toward neighbour demand source group tree =
      demand source group tree && is_neighbour neighbour (rpf_neighbour source group tree)

  -- ---- forms

  -- The group has no star, or the neighbour is RPF'(*,G).
  abbrev pub is_star_toward : List ℕ → List ℕ → Option (List (List ℕ)) → Bool
  is_star_toward neighbour group None = true
  is_star_toward neighbour group (Some exceptions) = is_neighbour neighbour (star_rpf_neighbour via (rps group))

  -- The neighbour is the upstream neighbour of the group's star, if it has one, and of each of its
  -- sources.
  abbrev pub is_group_toward : List ℕ → GroupForm → Bool
  is_group_toward neighbour this = is_star_toward neighbour this.group this.star
      && list_all (λ source. is_neighbour neighbour (via source)) this.sources

  -- The neighbour is the upstream neighbour of all stars and sources of the form.
  abbrev pub is_toward : List ℕ → List GroupForm → Bool
  is_toward neighbour form = list_all (is_group_toward neighbour) form

  -- Each group that is wanted on the shared tree has an RP.
  abbrev pub SharedHaveRps : Demand → Type 0
  SharedHaveRps demand = (source group : List ℕ) → demand source group Shared ≡ true → is_some (rps group) ≡ true

-- The neighbour to which a route table leads an address. `rp_of` is the RP of a group by the same
-- table.
abbrev pub via_of : AddressFamily → RouteTable → List ℕ → Option (List ℕ)
via_of family table address = via family address table
