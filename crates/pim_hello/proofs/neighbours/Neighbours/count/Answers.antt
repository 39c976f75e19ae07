use Rattle.pim_hello.proofs.Kept.{ascending_seen}
use Rattle.pim_hello.proofs.neighbours.Neighbours.count.Goals as goal

pub returns-clause-ascending : goal.returns-clause-ascending
returns-clause-ascending g c = rw (← c.self.view_is)
    (ascending_seen g.F.Addr.Ord.cmp g.F.Family.bytes_of g.met.F.Family.order_of_bytes c.self.inside.moment c.self.inside.roster.neighbours.entries c.self.inside.roster.ascending)
