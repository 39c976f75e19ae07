use Rattle.std.proofs.Common.{◌≡◌, ◌+◌, ◌++◌, length}
use Rattle.pim_fragments.specs.Stored.{pieces_seen}
use Rattle.pim_fragments.specs.Pieces.{joined, size_of}
use Rattle.pim_fragments.proofs.pieces.joined.Given as goal

abbrev pub invariant-loop-piece : goal.invariant-loop-piece
invariant-loop-piece l = record {
  bytes : l.bytes.items ++ joined (pieces_seen l.piece-iterator) ≡ joined (pieces_seen l.held.entries);
  size : length l.bytes.items + size_of (pieces_seen l.piece-iterator) ≡ size_of (pieces_seen l.held.entries);
}
