-- The header of a PIM message (RFC 7761, 4.9): its faults, and the content of the message.
use Rattle.std.specs.Prelude.{◌≡◌, ℕ, ◌≤◌, IsTrue, ◌/◌, ◌%◌, Bool, List, [], ◌∷◌, ◌++◌, length, drop, slice_index}
use Rattle.std.specs.Prelude.{nat_lt, nat_eq, ◌==◌, ◌&&◌, ◌||◌, not, if◌then◌else◌}
use Rattle.std.specs.Cmp.Lexicographic.{pointwise}
use Rattle.pim_addr.specs.Faults.{fault_if}
use Rattle.pim_addr.specs.declared.family.AddressFamily.{AddressFamily}
use Rattle.pim_addr.specs.declared.family.AddressFamily.TheVariants.{Ipv4, Ipv6}
use Rattle.pim_frame.specs.Sum.{sums_rightly}
use Rattle.pim_frame.specs.declared.frame.FrameFault.{FrameFault}
use Rattle.pim_frame.specs.declared.frame.FrameFault.TheVariants.{Short, Version, Checksum, NotAllRouters}

-- The PIM Ver field: the high 4 bits of the first byte.
abbrev pub version : List ℕ → ℕ
version message = slice_index message 0 / 16

-- The Type field: the low 4 bits of the first byte.
abbrev pub message_type : List ℕ → ℕ
message_type message = slice_index message 0 % 16

-- The ALL-PIM-ROUTERS group: 224.0.0.13 or ff02::d (RFC 7761, 4.3.1).
abbrev pub all_routers : AddressFamily → List ℕ
all_routers Ipv4 = 224 ∷ 0 ∷ 0 ∷ 13 ∷ []
all_routers Ipv6 = 255 ∷ 2 ∷ 0 ∷ 0 ∷ 0 ∷ 0 ∷ 0 ∷ 0 ∷ 0 ∷ 0 ∷ 0 ∷ 0 ∷ 0 ∷ 0 ∷ 0 ∷ 13 ∷ []

-- The destination is ALL-PIM-ROUTERS.
abbrev pub is_to_all_routers : AddressFamily → List ℕ → Bool
is_to_all_routers family destination = pointwise nat_eq destination (all_routers family)

-- The message is a Hello (type 0) or a Join/Prune message (type 3) (RFC 7761, 4.9).
abbrev pub is_hello_or_join_prune : List ℕ → Bool
is_hello_or_join_prune message = message_type message == 0 || message_type message == 3

-- A message that is accepted: it has 4 bytes and version 2; a Hello or a Join/Prune has a correct
-- checksum and goes to ALL-PIM-ROUTERS.
abbrev pub IsAccepted : AddressFamily → List ℕ → List ℕ → List ℕ → Type 0
IsAccepted family source destination message = (4 ≤ length message) × (version message ≡ 2)
    × (IsTrue (is_hello_or_join_prune message)
    → IsTrue (sums_rightly family source destination message) × (destination ≡ all_routers family))

-- All faults of a header, in the order of `FrameFault`. Checksum and destination count for a Hello
-- and a Join/Prune alone.
abbrev pub frame_faults : AddressFamily → List ℕ → List ℕ → List ℕ → List FrameFault
frame_faults family source destination message =
    fault_if (nat_lt (length message) 4) Short
    ++ fault_if (not (version message == 2)) (Version (version message))
    ++ fault_if (is_hello_or_join_prune message && not (sums_rightly family source destination message)) Checksum
    ++ fault_if (is_hello_or_join_prune message && not (is_to_all_routers family destination)) NotAllRouters

-- What a message holds: the bytes of a Hello or of a Join/Prune after the header, or only the type
-- of another message.
pub data Content : Type 0 where
  hello : List ℕ → Content
  join_prune : List ℕ → Content
  other : ℕ → Content

-- The content of a message that has its header.
abbrev pub content : List ℕ → Content
content message =
    if message_type message == 0 then hello (drop 4 message)
    else (if message_type message == 3 then join_prune (drop 4 message) else other (message_type message))
