use Rattle.std.proofs.Common.{◌≡◌, ◌-◌, length}
use Rattle.pim_text.proofs.BuiltPieces.{IsSoFar}
use Rattle.pim_text.proofs.build.feed.add_pieces.Given as goal

abbrev pub invariant-loop-reader : goal.invariant-loop-reader
invariant-loop-reader g l =
    IsSoFar (g.R.Feed.remaining l.initial.reader) (g.R.Feed.remaining l.reader) l.text.items
    × (g.R.Feed.failures l.reader ≡ g.R.Feed.failures l.initial.reader)
    × (length l.piece ≡ 65536)

abbrev pub decreases-loop-reader : goal.decreases-loop-reader
decreases-loop-reader g l = 8454144 - length l.text.items
