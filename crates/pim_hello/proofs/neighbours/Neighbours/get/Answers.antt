use Rattle.std.proofs.Common.{Some, None, ap, ◌∙◌}
use Rattle.pim_hello.proofs.NextEnd.{entry_there}
use Rattle.pim_hello.proofs.neighbours.Neighbours.get.Goals as goal

pub returns-in-None : goal.returns-in-None
returns-in-None g c =
    let s = c.self.inside in
    rw (← c.self.view_is) (entry_there g.F.Addr.Ord.cmp g.F.Family.bytes_of g.met.F.Family.order_of_bytes s.moment c.args.from s.roster.neighbours.entries None c.in-None.ensures)

pub returns-in-Some : goal.returns-in-Some
returns-in-Some g c =
    let s = c.self.inside in
    rw (← c.self.view_is) (ap Some (c.neighbour_at.ensures g.F.Family.bytes_of)
    ∙ entry_there g.F.Addr.Ord.cmp g.F.Family.bytes_of g.met.F.Family.order_of_bytes s.moment c.args.from s.roster.neighbours.entries (Some c.in-Some.kept) c.in-Some.ensures)
