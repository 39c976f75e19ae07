use Rattle.pim_down.proofs.Words.{map, event_seen}
use Rattle.pim_down.proofs.Listing.{AreFirstTo}
use Rattle.pim_down.proofs.hearing.ordered.stars_come_first.Given as goal

abbrev pub invariant-loop-index : goal.invariant-loop-index
invariant-loop-index g l = AreFirstTo (map (event_seen g.F.Family.bytes_of) l.events) l.index
