use Rattle.std.proofs.Common.{◌≡◌, drop}
use Rattle.pim_fragments.specs.Packets.{with_all}
use Rattle.pim_fragments.proofs.fragments.with_all.Given as goal

abbrev pub invariant-loop-packet : goal.invariant-loop-packet
invariant-loop-packet g l = with_all (drop l.packet-index l.packets.items) l.incomplete ≡ with_all l.packets.items l.fn.incomplete
