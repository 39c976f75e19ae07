use Rattle.pim_transitions.proofs.Words.{◌≡◌, map, length, candidate_seen, transitions_to}
use Rattle.pim_transitions.proofs.changes.first_change.Given as goal

-- no change was passed over
abbrev pub invariant-loop-candidate : goal.invariant-loop-candidate
invariant-loop-candidate g l =
    transitions_to l.ports.records (map (candidate_seen g.F.Family.bytes_of) l.candidates)
    ≡ transitions_to l.ports.records (map (candidate_seen g.F.Family.bytes_of) l.left)

abbrev pub decreases-loop-candidate : goal.decreases-loop-candidate
decreases-loop-candidate g l = length l.left
