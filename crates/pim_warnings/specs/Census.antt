-- The captures of a router, of which each has a census if its port has a link.
use Rattle.std.specs.Prelude.{ℕ, suc, cond, is_some, List, [], ◌∷◌}
use Rattle.pim_addr.specs.declared.family.AddressFamily.{AddressFamily}
use Rattle.pim_merge.specs.Lane.{LaneState, census_at}
use Rattle.pim_merge.specs.Next.{MergeState}
use Rattle.pim_files.specs.Captures.{PortFiles}
use Rattle.pim_words.specs.declared.task.Port.{Port}

module _ {A : Type 0} (family : AddressFamily) (bytes_of : A → List ℕ) where
  -- The captures when a census of the one with this number has begun, for its port's address, if that
  -- has a link.
  abbrev pub begun_at : ℕ → Port A → List LaneState → List LaneState
  begun_at number port lanes =
      cond (is_some port.link) (census_at family (bytes_of port.address) number lanes) lanes

  -- The same of the captures of these ports, of which the first has this number.
  unfoldable pub begun_from : ℕ → List (PortFiles A) → List LaneState → List LaneState
  begun_from number [] lanes = lanes
  begun_from number (it ∷ ports) lanes = begun_from (suc number) ports (begun_at number it.port lanes)

  -- The captures when a census of each has begun whose port has a link.
  abbrev pub begun : List (PortFiles A) → MergeState → MergeState
  begun ports merge = record merge { lanes = begun_from 0 ports merge.lanes }
