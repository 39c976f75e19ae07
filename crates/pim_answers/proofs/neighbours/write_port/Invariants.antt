use Rattle.pim_answers.proofs.Words.{◌≡◌, flat_map, neighbour_line}
use Rattle.pim_answers.proofs.Written.{IsLeft}
use Rattle.pim_answers.proofs.neighbours.write_port.Given as goal

-- the lines of the neighbours that are left are still to be written
abbrev pub invariant-loop-neighbour : goal.invariant-loop-neighbour
invariant-loop-neighbour g l =
    IsLeft (g.W.Drain.contents l.fn.writer) (g.W.Drain.contents l.writer) (flat_map (neighbour_line g.F.Family.family l.port) l.neighbour-iterator)
    (flat_map (neighbour_line g.F.Family.family l.port) l.fn.neighbours)
    × (g.W.Drain.failures l.writer ≡ g.W.Drain.failures l.fn.writer)
