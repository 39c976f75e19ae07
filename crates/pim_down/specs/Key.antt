-- The order of downstream machines, a choice of this project: by port, by group, then (*,G), (S,G)
-- by source and (S,G,rpt) by source. Addresses compare as lists of bytes.
use Rattle.std.specs.Prelude.{ℕ, Bool, List, []}
use Rattle.std.specs.declared.cmp.Ordering.{Ordering}
use Rattle.std.specs.Ordering.{nat_cmp, ordering_then, is_eq}
use Rattle.std.specs.Cmp.Lexicographic.{slice_cmp}
use Rattle.pim_down.specs.declared.machines.key.What.{What}
use Rattle.pim_down.specs.declared.machines.key.What.TheVariants.{Star, Source, Rpt}
use Rattle.pim_down.specs.declared.machines.key.Key.{Key}

-- The rank of a machine within its group: (*,G), (S,G), (S,G,rpt).
abbrev pub rank : What (List ℕ) → ℕ
rank Star = 0
rank (Source source) = 1
rank (Rpt source) = 2

-- The source of an (S,G) or (S,G,rpt) machine; an empty list for (*,G).
abbrev pub source_of : What (List ℕ) → List ℕ
source_of Star = []
source_of (Source source) = source
source_of (Rpt source) = source

-- The order of addresses: byte by byte.
abbrev pub address_cmp : List ℕ → List ℕ → Ordering
address_cmp = slice_cmp nat_cmp

-- The order of the machines of one group: by rank, then by source.
unfoldable pub what_cmp : What (List ℕ) → What (List ℕ) → Ordering
what_cmp a b = ordering_then (nat_cmp (rank a) (rank b)) (address_cmp (source_of a) (source_of b))

-- The order of keys: by port, by group, then by machine.
unfoldable pub key_cmp : Key (List ℕ) → Key (List ℕ) → Ordering
key_cmp a b =
    ordering_then (ordering_then (nat_cmp a.port b.port) (address_cmp a.group b.group)) (what_cmp a.what b.what)

-- The two keys compare as equal.
abbrev pub same_key : Key (List ℕ) → Key (List ℕ) → Bool
same_key a b = is_eq (key_cmp a b)
