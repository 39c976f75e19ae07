-- What a trace says of the PIM message of a packet, whatever the router makes of it.
use Rattle.std.specs.Prelude.{Option, None, Some}
use Rattle.pim_addr.specs.declared.family.AddressFamily.{AddressFamily}
use Rattle.pim_hello.specs.Hello.{Parameters}
use Rattle.pim_jp.specs.Message.{Message}
use Rattle.pim_router.specs.Packets.{Packet}
use Rattle.pim_router.specs.Reading.{Reading, read_hello, read_message, read_other, read_fault, packet_read}

-- What a Hello says, if it is one.
abbrev pub hello_in : Reading → Option Parameters
hello_in (read_hello said) = Some said.parameters
hello_in (read_message message) = None
hello_in (read_other type) = None
hello_in (read_fault fault) = None

-- The Join/Prune message, if it is one.
abbrev pub message_in : Reading → Option Message
message_in (read_hello said) = None
message_in (read_message message) = Some message
message_in (read_other type) = None
message_in (read_fault fault) = None

-- The Hello as which a packet reads, without its Address List.
abbrev pub hello_read : AddressFamily → Packet → Option Parameters
hello_read family packet = hello_in (packet_read family packet)

-- The Join/Prune message as which a packet reads.
abbrev pub message_read : AddressFamily → Packet → Option Message
message_read family packet = message_in (packet_read family packet)
