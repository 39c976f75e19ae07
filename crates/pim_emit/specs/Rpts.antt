-- The (S,G,rpt) machines of a group that are left in a walk, on the first port that has the group's
-- star.
use Rattle.std.specs.Prelude.{◌≡◌, ℕ, List, Option, None, Some}
use Rattle.pim_down.specs.After.{MachinesLeft}
use Rattle.pim_down.specs.declared.machines.key.What.TheVariants.{Rpt}
use Rattle.pim_down.specs.Time.{Downstream}
use Rattle.pim_emit.specs.Ahead.{machines_behind}

-- The machines that are left, and the source above which their sources are.
pub record RptsLeft : Type 0 where
  pub bound : List ℕ
  pub left : MachinesLeft

-- These are the machines of the group on the port after (S,G,rpt) of the bound.
abbrev pub AreRptsOn : Downstream → ℕ → List ℕ → RptsLeft → Type 0
AreRptsOn state port group rpts = rpts.left ≡ machines_behind state port group (Rpt rpts.bound)

-- These are those machines on the first port that has the star, if a port has it.
abbrev pub AreRpts : Downstream → List ℕ → Option ℕ → RptsLeft → Type 0
AreRpts state group None rpts = Unit {0}
AreRpts state group (Some port) rpts = AreRptsOn state port group rpts
