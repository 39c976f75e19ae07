-- Where the packet of a captured frame begins, or why there is none. Restates the headers of the
-- link types of pcap files: Ethernet, Linux cooked capture and its second version, BSD loopback,
-- and IP without a link layer; and the tags of IEEE 802.1Q and 802.1ad.
use Rattle.std.specs.Prelude.{ℕ, ◌+◌, ◌%◌, Bool, false, ◌&&◌, ◌||◌, ◌==◌, not, List, length, drop, slice_index, nat_lt}
use Rattle.std.specs.Prelude.{Option, None, Some, Result, Ok, Err, if◌then◌else◌}
use Rattle.byteorder.specs.Endian.{big_number, little_number}
use Rattle.pim_addr.specs.declared.family.AddressFamily.{AddressFamily}
use Rattle.pim_addr.specs.declared.family.AddressFamily.TheVariants.{Ipv4, Ipv6}
use Rattle.pim_capture.specs.declared.event.Why.{Why}
use Rattle.pim_capture.specs.declared.event.Why.TheVariants.{Cut, LinkType}
use Rattle.pim_capture.specs.Frame.{ethernet_family, raw_family, version}
use Rattle.pim_container.specs.declared.link.BlockEndianness.{BlockEndianness}
use Rattle.pim_container.specs.declared.link.BlockEndianness.TheVariants.{Big, Little}
use Rattle.pim_container.specs.declared.link.LinkLayer.{LinkLayer}
use Rattle.pim_container.specs.declared.link.LinkLayer.TheVariants as link
use Rattle.pim_capture.specs.declared.vlan.Vlan.{Vlan}
use Rattle.pim_container.specs.declared.tags.Carried.{Carried}
use Rattle.pim_container.specs.declared.place.PacketPlace.{PacketPlace}

-- The number in the first `size` bytes, in this byte order.
abbrev pub number : BlockEndianness → ℕ → List ℕ → ℕ
number Big size bytes = big_number size bytes
number Little size bytes = little_number size bytes

-- ---- link types

-- What a frame begins with, by the link type of its file or interface. Systems number raw IP
-- differently.
abbrev pub link_of : ℕ → LinkLayer
link_of type =
    if type == 1 then link.Ethernet
    else (if type == 101 || type == 12 || type == 14 then link.Raw
    else (if type == 228 then link.Ipv4
    else (if type == 229 then link.Ipv6
    else (if type == 113 then link.Cooked
    else (if type == 276 then link.CookedV2
    else (if type == 0 || type == 108 then link.Loopback else link.Other type))))))

-- ---- tags

-- The Ethernet types of a tag of four bytes: 802.1Q, 802.1ad, and the one that stacked tags had
-- before it.
abbrev pub is_tag : ℕ → Bool
is_tag type = type == 0x8100 || type == 0x88a8 || type == 0x9100

-- The type after the first tag, of the bytes that follow the first type.
abbrev pub second_type : List ℕ → ℕ
second_type bytes = big_number 2 (drop 2 bytes)

-- The VLAN of a tag: the low 12 bits of its first two bytes.
abbrev pub tag_vlan : List ℕ → ℕ
tag_vlan tag = big_number 2 tag % 4096

-- A VLAN of one tag inside another, outer one first. A tag of VLAN 0 has only a priority, and
-- counts as no tag.
abbrev pub stacked : ℕ → ℕ → Vlan
stacked outer inner =
    if outer == 0 then record { outer = inner; inner = 0 } else record { outer = outer; inner = inner }

-- What two tags carry, whose bytes begin at the place `at` of a frame.
abbrev pub after_two : ℕ → List ℕ → Carried
after_two at bytes = record {
  type_number = big_number 2 (drop 6 bytes);
  at = at + 8;
  vlan = stacked (tag_vlan bytes) (tag_vlan (drop 4 bytes));
}

-- What one tag carries.
abbrev pub after_one : ℕ → List ℕ → Carried
after_one at bytes = record {
  type_number = second_type bytes;
  at = at + 4;
  vlan = stacked 0 (tag_vlan bytes);
}

-- What one or two tags carry. `None` if the frame ends inside a tag.
abbrev pub tagged : ℕ → List ℕ → Option Carried
tagged at bytes =
    if nat_lt (length bytes) 4 then None
    else (if not (is_tag (second_type bytes)) then Some (after_one at bytes)
    else (if nat_lt (length bytes) 8 then None else Some (after_two at bytes)))

-- What follows the first type in a frame, with at most two tags before it. The bytes at the place
-- `at` follow that type.
abbrev pub carried : ℕ → ℕ → List ℕ → Option Carried
carried type at frame =
    if is_tag type then tagged at (drop at frame)
    else Some (record { type_number = type; at = at; vlan = stacked 0 0 })

-- ---- the place of the IP packet

-- The length of the link layer's header without tags, in bytes.
abbrev pub link_length : LinkLayer → ℕ
link_length link.Ethernet = 14
link_length link.Raw = 0
link_length link.Ipv4 = 0
link_length link.Ipv6 = 0
link_length link.Cooked = 16
link_length link.CookedV2 = 20
link_length link.Loopback = 4
link_length (link.Other type) = 0

-- The Ethernet type in a link layer's header.
abbrev pub first_type : LinkLayer → List ℕ → ℕ
first_type link.Cooked frame = big_number 2 (drop 14 frame)
first_type link.CookedV2 frame = big_number 2 frame
first_type _ frame = big_number 2 (drop 12 frame)

-- A packet of this type, on a device of this hardware type, is a copy of another packet, which is
-- captured too. Type 5 (PACKET_LOOPBACK of Linux) is a copy of what the host sent, looped back.
-- Type 4 is what the host sent: the loopback device, which has the hardware type 772, receives it
-- too.
abbrev pub is_copied : ℕ → ℕ → Bool
is_copied packet_type device_type = packet_type == 5 || packet_type == 4 && device_type == 772

-- A cooked header says that the packet is a copy.
abbrev pub is_copy : LinkLayer → List ℕ → Bool
is_copy link.Cooked frame = is_copied (big_number 2 frame) (big_number 2 (drop 2 frame))
is_copy link.CookedV2 frame = is_copied (slice_index frame 10) (big_number 2 (drop 8 frame))
is_copy _ frame = false

-- The index of the interface in the header of cooked version 2.
abbrev pub index_of : LinkLayer → List ℕ → ℕ
index_of link.CookedV2 frame = big_number 4 (drop 4 frame)
index_of _ frame = 0

-- The address family of a BSD loopback header: AF_INET is 2 everywhere; AF_INET6 is 10 on Linux, 24
-- on NetBSD and OpenBSD, 28 on FreeBSD and 30 on macOS.
abbrev pub socket_family : ℕ → Option AddressFamily
socket_family number =
    if number == 2 then Some Ipv4
    else (if number == 10 || number == 24 || number == 28 || number == 30 then Some Ipv6 else None)

-- The first family that is named.
abbrev pub family_or : Option AddressFamily → Option AddressFamily → Option AddressFamily
family_or (Some family) other = Some family
family_or None other = other

-- The place of a packet of this family, if it is one of IP, where the link layer has no tags.
abbrev pub untagged_place : Option AddressFamily → ℕ → PacketPlace
untagged_place family at = record { family = family; at = at; vlan = stacked 0 0; index = 0; is_copy = false }

-- The place of what an Ethernet type names.
abbrev pub typed_place : Option Carried → ℕ → Bool → Result PacketPlace Why
typed_place None index is_copy = Err Cut
typed_place (Some carrier) index is_copy = Ok (record {
  family = ethernet_family carrier.type_number;
  at = carrier.at;
  vlan = carrier.vlan;
  index = index;
  is_copy = is_copy;
})

-- The place of what follows in a frame whose link layer's header is whole. The word of a BSD
-- loopback header is read in both byte orders.
abbrev pub whole_place : LinkLayer → List ℕ → Result PacketPlace Why
whole_place link.Raw frame =
    if length frame == 0 then Err Cut else Ok (untagged_place (raw_family (version frame)) 0)
whole_place link.Ipv4 frame = Ok (untagged_place (Some Ipv4) 0)
whole_place link.Ipv6 frame = Ok (untagged_place (Some Ipv6) 0)
whole_place link.Loopback frame =
    Ok (untagged_place (family_or (socket_family (number Little 4 frame)) (socket_family (number Big 4 frame))) 4)
whole_place (link.Other type) frame = Err (LinkType type)
whole_place layer frame =
    typed_place (carried (first_type layer frame) (link_length layer) frame) (index_of layer frame) (is_copy layer frame)

-- The place of what a frame carries after the link layer's header and its tags, or the first reason
-- why there is none.
abbrev pub place_of : LinkLayer → List ℕ → Result PacketPlace Why
place_of layer frame = if nat_lt (length frame) (link_length layer) then Err Cut else whole_place layer frame
