use Rattle.std.proofs.Common.{◌≡◌, drop}
use Rattle.std.specs.List.{flat_map}
use Rattle.pim_lines.specs.Hex.{hex_of}
use Rattle.pim_lines.proofs.Written.{IsLeft}
use Rattle.pim_lines.proofs.hex.write_hex.Given as goal

-- the digits of the bytes that are left are still to be written
abbrev pub invariant-loop-byte : goal.invariant-loop-byte
invariant-loop-byte g l =
    IsLeft (g.W.Drain.contents l.fn.writer) (g.W.Drain.contents l.writer) (flat_map hex_of (drop l.byte-index l.bytes)) (flat_map hex_of l.bytes)
    × (g.W.Drain.failures l.writer ≡ g.W.Drain.failures l.fn.writer)
