use Rattle.pim_transitions.proofs.Words.{◌≡◌, ◌++◌, map, length, event_seen, candidate_of, lasts, candidate_seen}
use Rattle.pim_transitions.proofs.marks.look_up.Given as goal

-- the candidates so far and those of the marks that are left are all
abbrev pub invariant-loop-mark : goal.invariant-loop-mark
invariant-loop-mark g l =
    let bytes_of = g.F.Family.bytes_of in
    map (candidate_seen bytes_of) l.candidates.items ++ map (candidate_of l.port l.ports.records) (lasts (map (event_seen bytes_of) l.left))
    ≡ map (candidate_of l.port l.ports.records) (lasts (map (event_seen bytes_of) l.marks))

abbrev pub decreases-loop-mark : goal.decreases-loop-mark
decreases-loop-mark g l = length l.left
