use Rattle.pim_merge.proofs.Words.{◌≤◌, vec_len, vec_capacity, most_captured, read_coming, chosen_failures, chosen_left}
use Rattle.pim_merge.proofs.Words.{piece_capacity, places, read_held, read_needs}
use Rattle.pim_merge.proofs.Choosing.{HasPassed}
use Rattle.pim_merge.proofs.Needing.{HasHeld}
use Rattle.pim_merge.proofs.chosen.Chosen.read_on.Given as goal

abbrev pub invariant-loop-event : goal.invariant-loop-event
invariant-loop-event g l =
    HasPassed (chosen_left l.fn.self) (chosen_left l.self)
    (chosen_failures g.R.Feed.failures l.fn.self) (chosen_failures g.R.Feed.failures l.self)
    (read_coming g.R.Feed.remaining l.fn.self) (read_coming g.R.Feed.remaining l.self)
    × (vec_len l.buffer ≤ most_captured)
    × HasHeld (vec_capacity l.fn.buffer) (vec_capacity l.buffer) (piece_capacity l.fn.self) (piece_capacity l.self) (places l.fn.self) (places l.self)
    (read_coming g.R.Feed.remaining l.fn.self) (read_coming g.R.Feed.remaining l.self)
    (read_needs g.R.Feed.remaining l.fn.self) (read_needs g.R.Feed.remaining l.self)
    (read_held g.R.Feed.remaining l.fn.self) (read_held g.R.Feed.remaining l.self)

abbrev pub decreases-loop-event : goal.decreases-loop-event
decreases-loop-event g l = chosen_left l.self
