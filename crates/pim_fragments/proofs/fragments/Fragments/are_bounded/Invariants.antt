use Rattle.std.specs.List.{AllWithin}
use Rattle.pim_fragments.specs.Pieces.{IsSmall}
use Rattle.pim_fragments.proofs.fragments.Fragments.are_bounded.Given as goal

abbrev pub invariant-loop-packet : goal.invariant-loop-packet
invariant-loop-packet g l = AllWithin (λ packet. IsSmall packet.pieces) l.self.packets 0 l.packet-index
