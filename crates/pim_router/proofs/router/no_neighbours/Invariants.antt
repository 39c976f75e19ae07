use Rattle.pim_router.proofs.Words.{◌≡◌, replicate, no_neighbours}
use Rattle.pim_router.proofs.router.no_neighbours.Given as goal

abbrev pub invariant-loop : goal.invariant-loop
invariant-loop g l = l.tables.items ≡ replicate l.counter no_neighbours
