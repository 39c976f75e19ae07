use Rattle.std.proofs.Common.{◌≡◌, drop}
use Rattle.std.specs.List.{list_all}
use Rattle.pim_lines.specs.PortNames.{is_port_name_byte}
use Rattle.pim_lines.proofs.name.are_name_bytes.Given as goal

-- all bytes that are left are name bytes exactly where all are
abbrev pub invariant-loop-byte : goal.invariant-loop-byte
invariant-loop-byte l = list_all is_port_name_byte (drop l.byte-index l.bytes) ≡ list_all is_port_name_byte l.bytes
