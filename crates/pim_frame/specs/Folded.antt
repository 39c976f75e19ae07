-- The accumulator of the checksum. No public clause cites it.
use Rattle.std.specs.Prelude.{ℕ, zero, suc, ◌+◌, ◌*◌, ◌%◌, List, [], ◌∷◌, slice_index}

-- A sum with its carries out of 16 bits added back in. It is 0 for 0, else the number from 1 to
-- 65,535 with the same remainder by 65,535.
unfoldable pub folded : ℕ → ℕ
folded zero = 0
folded (suc n) = suc (n % 65535)

-- The number that four bytes make, big-endian.
abbrev pub wide : List ℕ → ℕ
wide word = slice_index word 0 * 16777216 + slice_index word 1 * 65536 + slice_index word 2 * 256 + slice_index word 3

-- The sum of the numbers that these groups of four bytes make.
unfoldable pub wide_total : List (List ℕ) → ℕ
wide_total [] = 0
wide_total (word ∷ words) = wide word + wide_total words
