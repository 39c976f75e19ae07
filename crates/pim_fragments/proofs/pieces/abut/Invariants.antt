use Rattle.std.proofs.Common.{◌≡◌}
use Rattle.pim_fragments.specs.Stored.{pieces_seen}
use Rattle.pim_fragments.specs.Pieces.{abut}
use Rattle.pim_fragments.proofs.pieces.abut.Given as goal

abbrev pub invariant-loop-offset : goal.invariant-loop-offset
invariant-loop-offset l = abut l.at l.end (pieces_seen l.offset-iterator) ≡ abut 0 l.end (pieces_seen l.held.entries)
