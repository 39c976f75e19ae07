-- How contracts see a neighbour that an iterator gives.
use Rattle.std.specs.Prelude.{ℕ, List}
use Rattle.pim_hello.specs.Neighbours.{Neighbour}
use Rattle.pim_hello.specs.Kept.{parameters_seen}
use Rattle.pim_hello.specs.declared.walk.KnownNeighbour.{KnownNeighbour}

-- The neighbour's address as its bytes, what its last accepted Hello said, and the time that is
-- left.
abbrev pub neighbour_seen : {A : Type 0} → (A → List ℕ) → KnownNeighbour A → List ℕ × Neighbour
neighbour_seen bytes_of known =
    (bytes_of known.address, record { parameters = parameters_seen known.parameters; left = known.left })
