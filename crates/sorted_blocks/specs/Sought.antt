-- The results of searches in one row, or over the first items of the blocks.
use Rattle.std.specs.Prelude.{◌≡◌, ℕ, suc, ◌-◌, ◌<◌, ◌≤◌, List, length, slice_index_or, Result, Ok, Err}
use Rattle.std.specs.declared.cmp.Ordering.{Ordering}
use Rattle.std.specs.declared.cmp.Ordering.TheVariants.{Less, Equal, Greater}
use Rattle.sorted_blocks.specs.Shape.{block_at}
use Rattle.sorted_blocks.specs.Found.{IsGap, IsEqualAt}

module _ {A : Type 0} where
  -- The item of the row at this index is less than what is sought.
  abbrev pub IsLessAt : (A → Ordering) → List A → ℕ → Type 0
  IsLessAt order row at = (d : A) → order (slice_index_or row at d) ≡ Less

  -- The result of a search in a row: an item that compares equal, or a gap at `low` or after it.
  abbrev pub IsSought : (A → Ordering) → List A → ℕ → Result ℕ ℕ → Type 0
  IsSought order row low (Ok at) = IsEqualAt order row at
  IsSought order row low (Err at) = (low ≤ at) × (at ≤ length row) × IsGap order row at

  -- The row has the first items of the blocks, none of which is empty.
  pub record IsLead (blocks : List (List A)) (row : List A) : Type 0 where
    pub long : length row ≡ length blocks
    pub some : (block : ℕ) → block < length blocks → 0 < length (block_at blocks block)
    pub same : (block : ℕ) (d : A) → block < length blocks →
        slice_index_or row block d ≡ slice_index_or (block_at blocks block) 0 d

  -- The block before `low` begins with a lesser item, and the block `high` with a greater one.
  pub record IsBlockGap (order : A → Ordering) (blocks : List (List A)) (low high : ℕ) : Type 0 where
    pub low_high : low ≤ high
    pub high_end : high ≤ length blocks
    pub less : (d : A) → 0 < low → order (slice_index_or (block_at blocks (low - 1)) 0 d) ≡ Less
    pub some_before : 0 < low → 0 < length (block_at blocks (low - 1))
    pub greater : (d : A) → high < length blocks → order (slice_index_or (block_at blocks high) 0 d) ≡ Greater
    pub some_behind : high < length blocks → 0 < length (block_at blocks high)

  -- The block begins with an item that compares equal.
  pub record IsBlockAt (order : A → Ordering) (blocks : List (List A)) (block : ℕ) : Type 0 where
    pub within : block < length blocks
    pub some : 0 < length (block_at blocks block)
    pub equal : (d : A) → order (slice_index_or (block_at blocks block) 0 d) ≡ Equal

  -- The result of a search over the blocks. It is a block whose first item compares equal, or the
  -- number of blocks that begin with a lesser item.
  abbrev pub IsBlockSought : (A → Ordering) → List (List A) → Result ℕ ℕ → Type 0
  IsBlockSought order blocks (Ok block) = IsBlockAt order blocks block
  IsBlockSought order blocks (Err count) = IsBlockGap order blocks count count

  -- The search may go on in this block from `low` on. The item before `low` is less, and the next
  -- block begins with a greater item.
  pub record IsRowLeft (order : A → Ordering) (blocks : List (List A)) (block low : ℕ) : Type 0 where
    pub within : block < length blocks
    pub from_low : low ≤ length (block_at blocks block)
    pub some : 0 < low
    pub less : (d : A) → order (slice_index_or (block_at blocks block) (low - 1) d) ≡ Less
    pub greater :
        (d : A) → suc block < length blocks → order (slice_index_or (block_at blocks (suc block)) 0 d) ≡ Greater
    pub some_behind : suc block < length blocks → 0 < length (block_at blocks (suc block))
