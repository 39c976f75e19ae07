-- The laws of a census: what its answers say of the packets that it counted.
use Rattle.std.specs.Prelude.{◌≡◌, ℕ, Bool, true, false, not, ◌&&◌, List, [], ◌∷◌, Option, None, Some, bytes_eq}
use Rattle.std.specs.Prelude.{if◌then◌else◌}
use Rattle.std.specs.List.{list_any, filter_map, AllByRecursion}
use Rattle.pim_addr.specs.declared.family.AddressFamily.{AddressFamily}
use Rattle.pim_addr.specs.Address.{AreBytes}
use Rattle.pim_addr.specs.Families.{is_same}
use Rattle.pim_addr.specs.Routes.{RouteTable, rp_of}
use Rattle.pim_jp.specs.Message.{Message}
use Rattle.pim_capture.specs.Frame.{Datagram}
use Rattle.pim_merge.specs.declared.census.Census.{Census}
use Rattle.pim_merge.specs.Census.{no_names, census_after, message_of_others, joins_star}
use Rattle.pim_merge.specs.Missing.{misses, without_rp}
use Rattle.pim_merge.specs.Slots.{field_of}

-- The census after these packets, in their order.
unfoldable pub census_over : Census → List Datagram → Census
census_over census [] = census
census_over census (packet ∷ packets) = census_over (census_after census packet) packets

-- The census of these packets, for a router with this address.
abbrev pub census_of : AddressFamily → List ℕ → List Datagram → Census
census_of family own packets = census_over (no_names family own) packets

-- The Join/Prune message of a packet, if it counts: the packet is of this family, another router
-- sent it, and neither the header nor the body of the message has a fault.
abbrev pub message_counted : AddressFamily → List ℕ → Datagram → Option Message
message_counted family own packet =
    if is_same family packet.family
    then message_of_others (field_of own) packet.family packet.source packet.destination packet.payload else None

-- The messages of these packets that count.
abbrev pub messages_counted : AddressFamily → List ℕ → List Datagram → List Message
messages_counted family own packets = filter_map (message_counted family own) packets

-- The upstream neighbour of the message has this address.
abbrev pub is_for : List ℕ → Message → Bool
is_for own message = bytes_eq (field_of own) (field_of message.upstream)

-- The message has a Join(*,G) of this group for the upstream neighbour with this address.
abbrev pub joins_group : List ℕ → List ℕ → Message → Bool
joins_group own group message =
    is_for own message && list_any (λ set. bytes_eq group set.group && joins_star set) message.sets

-- There is a message, and none is for this address.
abbrev pub are_for_others : List ℕ → List Message → Bool
are_for_others own [] = false
are_for_others own (message ∷ messages) = not (list_any (is_for own) (message ∷ messages))

-- A census misses its address exactly where messages count, and the upstream neighbour of none of
-- them has that address.
abbrev pub MissedIsNamedByNone : Type 0
MissedIsNamedByNone = (family : AddressFamily) (packets : List Datagram) (own : List ℕ)
    → misses (census_of family own packets) ≡ are_for_others own (messages_counted family own packets)

-- The group without an RP that a census names has none in the table. A message that counts has a
-- Join(*,G) of it for the own address. Packets are bytes.
abbrev pub UnservedIsJoined : Type 0
UnservedIsJoined = (family : AddressFamily) (table : RouteTable) (packets : List Datagram) (own group : List ℕ)
    → AllByRecursion (λ packet. AreBytes packet.payload) packets
    → without_rp family table (census_of family own packets) ≡ Some group
    → (rp_of family table group ≡ None)
    × (list_any (joins_group own group) (messages_counted family own packets) ≡ true)
