use Rattle.std.proofs.Common.{◌≡◌, ◌+◌, drop}
use Rattle.pim_summary.specs.Summary.{link_place}
use Rattle.pim_summary.proofs.links.link_place.Given as goal

-- the place is among the links that are left
abbrev pub invariant-loop-facts : goal.invariant-loop-facts
invariant-loop-facts l = (l.place
    ≡ l.facts-index) × (l.place + link_place l.link (drop l.facts-index l.links)
    ≡ link_place l.link l.links)
