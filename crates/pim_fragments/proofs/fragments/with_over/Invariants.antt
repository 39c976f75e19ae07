use Rattle.std.proofs.Common.{◌≡◌, drop, filter}
use Rattle.pim_fragments.specs.Packets.{with_all, is_over}
use Rattle.pim_fragments.proofs.fragments.with_over.Given as goal

abbrev pub invariant-loop-packet : goal.invariant-loop-packet
invariant-loop-packet g l = with_all (filter (is_over l.moment) (drop l.packet-index l.packets.items)) l.incomplete ≡ with_all (filter (is_over l.moment) l.packets.items) l.fn.incomplete
