use Rattle.pim_transitions.proofs.Candidates.{none_first}
use Rattle.pim_transitions.proofs.changes.first_change.Goals as goal

pub returns : goal.returns
returns g c =
    none_first g.F.Family.bytes_of c.args.ports.now.records c.loop-candidate.left.now c.args.candidates.now
    c.in_default.ensures.cases c.loop-candidate.invariant
