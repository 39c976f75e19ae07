-- The stars of both sides are those of their demands, and both demands have a normal form.
use Rattle.std.proofs.Common.{◌≡◌, ◌∙◌, ℕ, zero, suc, Bool, true, false, ◌&&◌, ◌||◌, not, List, Option, refl, sym}
use Rattle.pim_addr.specs.declared.family.AddressFamily.{AddressFamily}
use Rattle.pim_addr.specs.Routes.{rp_of}
use Rattle.pim_down.specs.declared.machines.key.What.TheVariants.{Star, Rpt}
use Rattle.pim_down.specs.Sound.{IsSound}
use Rattle.pim_down.specs.Time.{Downstream}
use Rattle.pim_form.specs.Demanded.{JoinedStarWantsSomeSource, DemandedFormIsDemanded, MergeIsTheFormOfEither, demanded_form, either_demand}
use Rattle.pim_form.specs.Merge.{merged}
use Rattle.pim_form.specs.NormalForm.{Demand, GroupForm, IsFormOf}
use Rattle.pim_form.specs.Toward.{toward, via_of, is_neighbour, star_rpf_neighbour, rpf_neighbour}
use Rattle.pim_form.specs.TowardLaws.{demand_toward}
unfoldable use Rattle.pim_form.specs.Wants.{some_below}
use Rattle.pim_form.specs.Wants.{is_joined, is_pruned, state_on, wants, wants_on}
use Rattle.pim_form.specs.declared.tree.Tree.{Tree}
use Rattle.pim_form.specs.declared.tree.Tree.TheVariants.{Shared}
use Rattle.pim_audit.specs.Dues.{Side}
use Rattle.pim_audit.specs.Local.{local_port}
use Rattle.pim_audit.specs.Sides.{SidesState, IsSide, side_of, asked_side, wanted_side, wanted_demand}
use Rattle.pim_audit.proofs.Gather.{or_first, or_second, and_both, and_true}

by_or : {P : Type 0} (a b : Bool) → (a || b) ≡ true → (a ≡ true → P) → (b ≡ true → P) → P
by_or true b h one other = one refl
by_or false b h one other = other h

and_or : (p q r : Bool) → ((p || q) && r) ≡ ((p && r) || (q && r))
and_or true q true = refl
and_or true true false = refl
and_or true false false = refl
and_or false q r = refl

some_weaker : (p q : ℕ → Bool) → ((port : ℕ) → p port ≡ true → q port ≡ true) → (count : ℕ) → some_below count p ≡ true
    → some_below count q ≡ true
unfolding some_below
some_weaker p q more zero some = some
some_weaker p q more (suc count) some = by_or (p count) (some_below count p) some
    (λ here. or_first (q count) (some_below count q) (more count here))
    (λ before. or_second (q count) (some_below count q) (some_weaker p q more count before))

-- ---- sides

module _ (family : AddressFamily) where
  -- that of some machines
  of_machines : JoinedStarWantsSomeSource → (state : Downstream) → IsSound family state → IsSide family (side_of state)
  of_machines law state sound = record {
    some = λ group valid star.
        let found = law family state group sound star in
        record { source = found.source; valid = found.valid; wanted = found.wanted };
    only = λ source group valid is_group wanted.
        some_weaker (wants_on state.records source group Shared) (λ port. is_joined (state_on state.records port group Star))
        (λ port inherited. (and_both (is_joined (state_on state.records port group Star)) (not (is_pruned (state_on state.records port group (Rpt source)))) inherited).0)
        state.ports wanted;
  }

  -- that of either of two
  abbrev either_side : Side → Side → Side
  either_side one other = record { demand = either_demand one.demand other.demand; star = λ group. one.star group || other.star group }

  of_either : (one other : Side) → IsSide family one → IsSide family other → IsSide family (either_side one other)
  of_either one other is_one is_other = record {
    some = λ group valid star. by_or (one.star group) (other.star group) star
        (λ here.
        let found = is_one.some group valid here in
        record { source = found.source; valid = found.valid; wanted = or_first (one.demand found.source group Shared) (other.demand found.source group Shared) found.wanted })
        (λ there.
        let found = is_other.some group valid there in
        record { source = found.source; valid = found.valid; wanted = or_second (one.demand found.source group Shared) (other.demand found.source group Shared) found.wanted });
    only = λ source group valid is_group wanted. by_or (one.demand source group Shared) (other.demand source group Shared) wanted
        (λ here. or_first (one.star group) (other.star group) (is_one.only source group valid is_group here))
        (λ there. or_second (one.star group) (other.star group) (is_other.only source group valid is_group there));
  }

  -- that of what is requested from a neighbour
  module _ (rps via : List ℕ → Option (List ℕ)) (neighbour : List ℕ) where
    abbrev reached : List ℕ → Bool
    reached group = is_neighbour neighbour (star_rpf_neighbour via (rps group))

    abbrev side_toward : Side → Side
    side_toward side = record { demand = toward rps via neighbour side.demand; star = λ group. side.star group && reached group }

    of_toward : (side : Side) → IsSide family side → IsSide family (side_toward side)
    of_toward side is = record {
      some = λ group valid star.
          let both = and_both (side.star group) (reached group) star in
          let found = is.some group valid both.0 in
          record {
            source = found.source;
            valid = found.valid;
            wanted = and_true (side.demand found.source group Shared) (reached group) found.wanted both.1;
          };
      only = λ source group valid is_group wanted.
          let both = and_both (side.demand source group Shared) (reached group) wanted in
          and_true (side.star group) (reached group) (is.only source group valid is_group both.0) both.1;
    }

  pub asked_is_side : JoinedStarWantsSomeSource → (sides : SidesState) → IsSound family sides.asked → IsSide family (asked_side sides)
  asked_is_side law sides sound = of_machines law sides.asked sound

  pub wanted_is_side : JoinedStarWantsSomeSource → (sides : SidesState) → IsSound family sides.wanted
      → IsSound family (local_port sides.local) → IsSide family (wanted_side family sides)
  wanted_is_side law sides sound sound_local =
      of_toward (rp_of family sides.routes) (via_of family sides.routes) sides.upstream
      (either_side (side_of sides.wanted) (side_of (local_port sides.local)))
      (of_either (side_of sides.wanted) (side_of (local_port sides.local)) (of_machines law sides.wanted sound)
      (of_machines law (local_port sides.local) sound_local))

-- ---- their forms

other_demand : (family : AddressFamily) (one other : Demand) (form : List GroupForm)
    → ((source group : List ℕ) (tree : Tree) → one source group tree ≡ other source group tree) → IsFormOf family one form
    → IsFormOf family other form
other_demand family one other form same is = record {
  normal = is.normal;
  wants = λ source group tree valid is_group. sym (same source group tree) ∙ is.wants source group tree valid is_group;
}

-- the normal form of what the router wants of the neighbour
abbrev pub form_wanted : AddressFamily → SidesState → List GroupForm
form_wanted family sides = merged (demanded_form family sides.routes sides.upstream sides.wanted)
    (demanded_form family sides.routes sides.upstream (local_port sides.local))

pub wanted_form : DemandedFormIsDemanded → MergeIsTheFormOfEither → (family : AddressFamily) (sides : SidesState)
    → IsSound family sides.wanted → IsSound family (local_port sides.local)
    → IsFormOf family (wanted_demand family sides) (form_wanted family sides)
wanted_form demanded merge family sides sound sound_local =
    let of_router = (demanded family sides.routes sides.upstream sides.wanted sound).is in
    let of_local = (demanded family sides.routes sides.upstream (local_port sides.local) sound_local).is in
    other_demand family
    (either_demand (demand_toward family sides.routes sides.upstream sides.wanted) (demand_toward family sides.routes sides.upstream (local_port sides.local)))
    (wanted_demand family sides) (form_wanted family sides)
    (λ source group tree. sym (and_or (wants sides.wanted source group tree) (wants (local_port sides.local) source group tree)
    (is_neighbour sides.upstream (rpf_neighbour (rp_of family sides.routes) (via_of family sides.routes) source group tree))))
    (merge family (demand_toward family sides.routes sides.upstream sides.wanted) (demand_toward family sides.routes sides.upstream (local_port sides.local))
    (demanded_form family sides.routes sides.upstream sides.wanted) (demanded_form family sides.routes sides.upstream (local_port sides.local)) of_router of_local)
