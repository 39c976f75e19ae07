use Rattle.std.proofs.Common.{◌≡◌, drop}
use Rattle.std.specs.List.{flat_map}
use Rattle.pim_lines.proofs.Written.{IsLeft}
use Rattle.pim_lines.proofs.pieces.write_pieces.Given as goal

-- what the pieces that are left have is still to be written
abbrev pub invariant-loop-piece : goal.invariant-loop-piece
invariant-loop-piece g l =
    IsLeft (g.W.Drain.contents l.fn.writer) (g.W.Drain.contents l.writer) (flat_map (λ piece. piece.now) (drop l.piece-index l.pieces)) (flat_map (λ piece. piece.now) l.pieces)
    × (g.W.Drain.failures l.writer ≡ g.W.Drain.failures l.fn.writer)
