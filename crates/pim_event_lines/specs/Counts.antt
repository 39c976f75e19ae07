-- What is counted in a Join/Prune message.
use Rattle.std.specs.Prelude.{ℕ, ◌+◌, List, [], ◌∷◌, length}
use Rattle.pim_jp.specs.Message.{GroupSet}

-- The number of joined entries of all group sets.
abbrev pub joined_in : List GroupSet → ℕ
joined_in [] = 0
joined_in (set ∷ sets) = length set.joined + joined_in sets

-- The number of pruned entries of all group sets.
abbrev pub pruned_in : List GroupSet → ℕ
pruned_in [] = 0
pruned_in (set ∷ sets) = length set.pruned + pruned_in sets
