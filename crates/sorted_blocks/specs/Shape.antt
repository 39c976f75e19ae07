-- A list in blocks, as contracts see it.
use Rattle.std.specs.Prelude.{ℕ, ◌+◌, ◌-◌, ◌*◌, ◌/◌, List, [], ◌∷◌, ◌++◌, length, take, drop, slice_index_or, slice_set}
use Rattle.std.specs.List.{flat_map, insert, remove}

-- The value of a list: its blocks in use, in order, and the number of spare blocks, which have
-- memory and no items.
pub record Shape (A : Type 0) : Type 0 where
  pub blocks : List (List A)
  pub spare : ℕ

-- The list without the `count` items from index `at` on.
unfoldable pub cut : {A : Type 0} → List A → ℕ → ℕ → List A
cut xs at count = take at xs ++ drop (at + count) xs

-- The list with these items put in before index `at`.
unfoldable pub spliced : {A : Type 0} → List A → ℕ → List A → List A
spliced xs at run = take at xs ++ (run ++ drop at xs)

module _ {A : Type 0} where
  -- The block with this number.
  abbrev pub block_at : List (List A) → ℕ → List A
  block_at blocks block = slice_index_or blocks block []

  -- The number of items of this block and the next one.
  abbrev pub together : List (List A) → ℕ → ℕ
  together blocks block = length (block_at blocks block) + length (block_at blocks (block + 1))

  -- The blocks with an item put into one of them.
  abbrev pub put_into : List (List A) → ℕ → ℕ → A → List (List A)
  put_into blocks block at item = slice_set blocks block (insert (block_at blocks block) at item)

  -- The blocks with items put into one of them.
  abbrev pub spliced_into : List (List A) → ℕ → ℕ → List A → List (List A)
  spliced_into blocks block at run = slice_set blocks block (spliced (block_at blocks block) at run)

  -- The blocks with `count` items of one of them taken out.
  abbrev pub cut_from : List (List A) → ℕ → ℕ → ℕ → List (List A)
  cut_from blocks block at count = slice_set blocks block (cut (block_at blocks block) at count)

  -- The blocks with one of them split into its first `half` items and the others.
  abbrev pub split : ℕ → List (List A) → ℕ → List (List A)
  split half blocks block =
      let row = block_at blocks block in insert (slice_set blocks block (take half row)) (block + 1) (drop half row)

  -- The blocks with one of them and the next made one block.
  abbrev pub merged : List (List A) → ℕ → List (List A)
  merged blocks block =
      let row = block_at blocks block ++ block_at blocks (block + 1) in slice_set (remove blocks (block + 1)) block row

  -- The items of all blocks, in order.
  abbrev pub joined : List (List A) → List A
  joined blocks = flat_map (λ block. block) blocks

  -- The list of items that the blocks hold.
  abbrev pub items : Shape A → List A
  items shape = joined shape.blocks

  -- The first item of each block that has one.
  unfoldable pub firsts : List (List A) → List A
  firsts [] = []
  firsts ([] ∷ blocks) = firsts blocks
  firsts ((item ∷ _) ∷ blocks) = item ∷ firsts blocks

  -- The number of all blocks, in use and spare.
  abbrev pub block_total : Shape A → ℕ
  block_total shape = length shape.blocks + shape.spare

  -- A number of items below which every insert takes no memory, for any inserts and removals in
  -- between. Without a spare block all blocks are in use. Neighboring blocks have more than `half`
  -- items together, so the list has at least this number of items.
  unfoldable pub capacity : ℕ → Shape A → ℕ
  capacity half shape = (block_total shape - 1) * (half + 1) / 2
