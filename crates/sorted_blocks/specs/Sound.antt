-- The invariants of every block, and of every list in blocks.
use Rattle.std.specs.Prelude.{◌≡◌, ℕ, ◌+◌, ◌^◌, ◌<◌, ◌≤◌, List, [], ◌∷◌, length}
use Rattle.sorted_blocks.specs.Shape.{joined, firsts, together}

-- The items of a block, with those before `start` that were taken out, number at most twice `half`.
-- The block has memory for twice `half` items.
pub record IsRoomy (half start len capacity : ℕ) : Type 0 where
  pub small : half ≤ 65536
  pub begins : start ≤ len
  pub fits : len ≤ half + half
  pub room : half + half ≤ capacity

-- Each block in use has at least one item and at most twice `half`.
unfoldable pub AllFilled : {A : Type 0} → ℕ → List (List A) → Type 0
AllFilled half [] = Unit {0}
AllFilled half (block ∷ blocks) = (1 ≤ length block) × (length block ≤ half + half) × AllFilled half blocks

-- Of the blocks from `from` up to `to`, each two neighbours have more than `half` items together.
unfoldable pub IsDenseIn : {A : Type 0} → ℕ → List (List A) → ℕ → ℕ → Type 0
IsDenseIn half blocks from to = (block : ℕ) → from ≤ block → block + 1 < to → half < together blocks block

-- Each two neighbouring blocks have more than `half` items together.
abbrev pub IsDense : {A : Type 0} → ℕ → List (List A) → Type 0
IsDense half blocks = IsDenseIn half blocks 0 (length blocks)

-- The invariant of the store: blocks are filled, both vectors have capacity for all blocks, and
-- `count` is the number of items.
pub record IsSound {A : Type 0} (half : ℕ) (blocks : List (List A)) (spare cap spare_cap count : ℕ) : Type 0 where
  pub half_some : 1 ≤ half
  pub half_small : half ≤ 65536
  pub filled : AllFilled half blocks
  pub used_room : length blocks + spare ≤ cap
  pub spare_room : length blocks + spare ≤ spare_cap
  pub few : length blocks + spare ≤ 2 ^ 32
  pub count_is : count ≡ length (joined blocks)

-- The row is the list of the first items of the blocks, and has capacity for those of all blocks.
pub record IsLed {A : Type 0} (blocks : List (List A)) (spare : ℕ) (row : List A) (row_cap : ℕ) : Type 0 where
  pub row_is : row ≡ firsts blocks
  pub row_room : length blocks + spare ≤ row_cap
