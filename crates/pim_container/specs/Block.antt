-- What a pcapng block gives (draft-ietf-opsawg-pcapng, 3 and 4): a type and a length of four bytes
-- each, the body, and the length again.
use Rattle.std.specs.Prelude.{ℕ, ◌+◌, ◌-◌, ◌*◌, ◌%◌, ◌^◌, Bool, ◌&&◌, ◌||◌, ◌==◌, not, List, [], ◌∷◌, ◌++◌, length, take, drop}
use Rattle.std.specs.Prelude.{nat_lt, slice_range, Option, None, Some, Result, Ok, Err, if◌then◌else◌}
use Rattle.std.specs.List.{slice_get}
use Rattle.byteorder.specs.Endian.{big_number}
use Rattle.pim_addr.specs.Faults.{fault_if}
use Rattle.pim_container.specs.declared.link.BlockEndianness.{BlockEndianness}
use Rattle.pim_container.specs.declared.link.BlockEndianness.TheVariants.{Big, Little}
use Rattle.pim_container.specs.declared.fault.ContainerFault.{ContainerFault}
use Rattle.pim_container.specs.declared.fault.ContainerFault.TheVariants as fault
use Rattle.pim_container.specs.declared.block.BlockHead.{BlockHead}
use Rattle.pim_container.specs.declared.block.Captured.{Captured}
use Rattle.pim_container.specs.declared.interface.Interface.{Interface}
use Rattle.pim_container.specs.declared.interface.Settings.{Settings}
use Rattle.pim_container.specs.Link.{number}
use Rattle.pim_container.specs.EventSeen.{EventSeen, untimed, section, described, passed, frame_event}
use Rattle.pim_container.specs.Interface.{settings_of, interface_of, moment_of}

-- ---- the head of a block

-- The type of a section header block, the same in both byte orders.
abbrev pub section_type : ℕ
section_type = 0x0a0d0d0a

-- The number at 8 of a section header block, in the byte order of its section.
abbrev pub order_magic : ℕ
order_magic = 0x1a2b3c4d

abbrev pub is_section : List ℕ → Bool
is_section block = big_number 4 block == section_type

abbrev pub has_order : BlockEndianness → List ℕ → Bool
has_order order block = number order 4 (drop 8 block) == order_magic

-- The byte order of a block: a section header names it for its section, up to the next one.
abbrev pub order_of : BlockEndianness → List ℕ → BlockEndianness
order_of before block = if is_section block then (if has_order Big block then Big else Little) else before

abbrev pub block_type : BlockEndianness → List ℕ → ℕ
block_type order block = number order 4 block

-- The length of a block, with all of itself.
abbrev pub block_length : BlockEndianness → List ℕ → ℕ
block_length order block = number order 4 (drop 4 block)

-- The greatest length of a block that is read.
abbrev pub most_block : ℕ
most_block = 16777216

-- The length of a block of this type without options, names and bytes of a packet.
abbrev pub least_block : ℕ → ℕ
least_block type =
    if type == section_type then 28
    else (if type == 1 then 20
    else (if type == 2 || type == 6 then 32
    else (if type == 3 then 16 else 12)))

-- What is wrong with the first 12 bytes of a block, in a section of this byte order.
abbrev pub head_faults : BlockEndianness → List ℕ → List ContainerFault
head_faults before head =
    fault_if (is_section head && not (has_order Big head) && not (has_order Little head)) fault.Magic
    ++ fault_if (nat_lt (block_length (order_of before head) head) (least_block (block_type (order_of before head) head))
    || not (block_length (order_of before head) head % 4 == 0)) fault.Block
    ++ fault_if (nat_lt most_block (block_length (order_of before head) head)) fault.TooLong

-- The byte order of a block, or the fault of a section header that names none.
abbrev pub stated_order : BlockEndianness → List ℕ → Result BlockEndianness ContainerFault
stated_order before block =
    if is_section block && not (has_order Big block) && not (has_order Little block) then Err fault.Magic
    else Ok (order_of before block)

-- What the head of a block says.
abbrev pub head_said : BlockEndianness → List ℕ → BlockHead
head_said before head =
    record { order = order_of before head; length = block_length (order_of before head) head }

-- The length at the end of a block is another one than that at its head.
abbrev pub is_unequal : BlockEndianness → List ℕ → Bool
is_unequal order block = not (number order 4 (drop (length block - 4) block) == length block)

-- ---- packets

-- The number of a packet's interface: of four bytes, or of two in the obsolete packet block.
abbrev pub interface_number : BlockEndianness → List ℕ → ℕ
interface_number order block =
    if block_type order block == 2 then number order 2 (drop 8 block) else number order 4 (drop 8 block)

-- The time stamp: its high half, then its low half.
abbrev pub stamp_of : BlockEndianness → List ℕ → ℕ
stamp_of order block = number order 4 (drop 12 block) * 2 ^ 32 + number order 4 (drop 16 block)

abbrev pub captured_length : BlockEndianness → List ℕ → ℕ
captured_length order block = number order 4 (drop 20 block)

-- When and on which interface the packet was captured, and where its captured bytes end in the
-- block.
abbrev pub captured_at : Option ℕ → Interface → BlockEndianness → List ℕ → Result Captured ContainerFault
captured_at None interface order block = Err fault.Time
captured_at (Some millis) interface order block = Ok (record {
  millis = millis;
  interface = interface_number order block;
  name = interface.name;
  link = interface.link;
  end = 28 + captured_length order block;
})

-- The capture of the packet on its interface. `None` is an interface that isn't described.
abbrev pub captured_on : Option Interface → BlockEndianness → List ℕ → Result Captured ContainerFault
captured_on None order block = Err fault.Block
captured_on (Some interface) order block =
    if nat_lt (length block) (32 + captured_length order block) then Err fault.Block
    else captured_at (moment_of interface (stamp_of order block)) interface order block

-- What a packet block with this capture gives. Padding, options and the last length follow the
-- captured bytes.
abbrev pub packet_event : Result Captured ContainerFault → List ℕ → Result EventSeen ContainerFault
packet_event (Ok captured) block =
    Ok (frame_event captured.millis captured.interface captured.name captured.link (drop 28 (take captured.end block)))
packet_event (Err fault) block = Err fault

abbrev pub packet_block : BlockEndianness → List Interface → List ℕ → Result EventSeen ContainerFault
packet_block order interfaces block =
    packet_event (captured_on (slice_get interfaces (interface_number order block)) order block) block

-- ---- other blocks

-- A block without the length at its end.
abbrev pub without_end : List ℕ → List ℕ
without_end block = take (length block - 4) block

-- The name of an interface with these settings.
abbrev pub name_of : List ℕ → Settings → List ℕ
name_of block settings = slice_range block settings.name_at settings.name_end

-- An interface description gives the interface's name.
abbrev pub described_block : Option Settings → List ℕ → Result EventSeen ContainerFault
described_block None block = Err fault.Block
described_block (Some settings) block = Ok (described (name_of block settings))

-- How many bytes describe the interfaces up to this one.
abbrev pub described_up_to : Option Interface → ℕ
described_up_to None = 0
described_up_to (Some interface) = interface.described

-- How many bytes describe these interfaces of a section.
abbrev pub described_bytes : List Interface → ℕ
described_bytes interfaces = described_up_to (slice_get interfaces (length interfaces - 1))

-- The greatest number of interfaces of a section, and of the bytes that describe them.
abbrev pub most_interfaces : ℕ
most_interfaces = 65535

abbrev pub most_described : ℕ
most_described = 67108864

-- A section with these interfaces has no room for one more, which a block of this length describes.
abbrev pub is_full : List Interface → ℕ → Bool
is_full interfaces size =
    not (nat_lt (length interfaces) most_interfaces) || nat_lt (most_described - described_bytes interfaces) size

abbrev pub interface_block : BlockEndianness → List Interface → List ℕ → Result EventSeen ContainerFault
interface_block order interfaces block =
    if is_full interfaces (length block) then Err fault.Block
    else described_block (settings_of order (without_end block)) block

-- A section header. Only the major version 1 is read.
abbrev pub section_block : BlockEndianness → List ℕ → Result EventSeen ContainerFault
section_block order block = if number order 2 (drop 12 block) == 1 then Ok section else Err fault.Block

-- Blocks of this type have no time that is read, but a number among the packets of a file, as
-- tshark counts them: simple packets, entries of a journal, events of sysdig (three types), and
-- custom blocks (two types).
abbrev pub is_untimed : ℕ → Bool
is_untimed type =
    type == 3 || type == 9 || type == 0x204 || type == 0x216 || type == 0x221 || type == 0xbad || type == 0x40000bad

-- A section header, an interface description, a packet and an obsolete packet, a block without a
-- time, or a block that is passed over.
abbrev pub block_event : BlockEndianness → List Interface → List ℕ → Result EventSeen ContainerFault
block_event order interfaces block =
    if is_unequal order block then Err fault.Block
    else (if block_type order block == section_type then section_block order block
    else (if block_type order block == 1 then interface_block order interfaces block
    else (if block_type order block == 2 || block_type order block == 6
    then packet_block order interfaces block
    else (if is_untimed (block_type order block) then Ok untimed else Ok passed))))

-- The interfaces of the section with a further one.
abbrev pub with_interface : List Interface → Option Settings → BlockEndianness → List ℕ → List Interface
with_interface interfaces None order block = interfaces
with_interface interfaces (Some settings) order block =
    interfaces ++ interface_of order block settings (described_bytes interfaces + length block) ∷ []

-- The interfaces of the section after a block: a section begins with none.
abbrev pub interfaces_after : BlockEndianness → List Interface → List ℕ → List Interface
interfaces_after order interfaces block =
    if block_type order block == section_type then []
    else (if block_type order block == 1
    then with_interface interfaces (settings_of order (without_end block)) order block else interfaces)
