use Rattle.pim_answers.proofs.Words.{◌≡◌, drop, tables_text, neighbours_text}
use Rattle.pim_answers.proofs.Written.{IsLeft}
use Rattle.pim_answers.proofs.neighbours.write_neighbours.Given as goal

-- the lines of the ports that are left are still to be written
abbrev pub invariant-loop-port : goal.invariant-loop-port
invariant-loop-port g l =
    IsLeft (g.W.Drain.contents l.fn.writer) (g.W.Drain.contents l.writer) (tables_text g.F.Family.family l.port (drop l.port l.router.tables)) (neighbours_text g.F.Family.family l.router)
    × (g.W.Drain.failures l.writer ≡ g.W.Drain.failures l.fn.writer)
