use Rattle.std.proofs.Common.{◌-◌, ◌≤◌, length}
use Rattle.pim_summary.specs.Lists.{place_of}
use Rattle.pim_summary.proofs.listed.place_of.Given as goal

-- the place is among those that are left
abbrev pub invariant-loop-low : goal.invariant-loop-low
invariant-loop-low g l = (l.low ≤ place_of g.T.Listed.key l.address l.items)
    × (place_of g.T.Listed.key l.address l.items ≤ l.high) × (l.high ≤ length l.items)

abbrev pub decreases-loop-low : goal.decreases-loop-low
decreases-loop-low g l = l.high - l.low
