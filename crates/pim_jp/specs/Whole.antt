-- That bytes are long enough for the parts that their counts announce. Views of a body keep this.
use Rattle.std.specs.Prelude.{ℕ, zero, suc, ◌+◌, ◌*◌, ◌≤◌, List, length, drop}
use Rattle.pim_addr.specs.declared.family.AddressFamily.{AddressFamily}
use Rattle.pim_addr.specs.Encoded.{unicast_length, group_length, source_length}
use Rattle.pim_jp.specs.Message.{joined_count, pruned_count, after_set, head_of, set_count}

-- The length in bytes of the group set at the front, by its counts.
abbrev pub set_length : AddressFamily → List ℕ → ℕ
set_length family bytes =
    group_length family + 4 + joined_count family bytes * source_length family
    + pruned_count family bytes * source_length family

-- The bytes are long enough for `count` group sets, each of the length that its own counts give.
unfoldable pub HoldsSets : AddressFamily → ℕ → List ℕ → Type 0
HoldsSets family zero bytes = Unit {0}
HoldsSets family (suc count) bytes =
    (set_length family bytes ≤ length bytes) × HoldsSets family count (after_set family bytes)

-- The body is long enough for the upstream neighbour, the four bytes after it, and all group sets.
abbrev pub HoldsMessage : AddressFamily → List ℕ → Type 0
HoldsMessage family body = (unicast_length family + 4 ≤ length body)
    × HoldsSets family (set_count family body) (drop 4 (head_of family body))
