-- The stars of both sides, as the code keeps them.
use Rattle.std.specs.Prelude.{◌≡◌, ℕ, List}
use Rattle.pim_addr.specs.declared.family.AddressFamily.{AddressFamily}
use Rattle.pim_audit.specs.declared.sides.Stars.{Stars}
use Rattle.pim_audit.specs.Sides.{SidesState, asked_side, wanted_side}

-- These say whether the group has a star on either side.
pub record AreStars (family : AddressFamily) (sides : SidesState) (group : List ℕ) (stars : Stars) : Type 0 where
  pub asked : stars.asked ≡ (asked_side sides).star group
  pub wanted : stars.wanted ≡ (wanted_side family sides).star group
