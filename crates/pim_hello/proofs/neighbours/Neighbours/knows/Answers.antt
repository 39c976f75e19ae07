use Rattle.pim_hello.proofs.Words.{ap, ◌∙◌, is_some}
use Rattle.pim_hello.proofs.Kept.{known_seen}
use Rattle.pim_hello.proofs.neighbours.Neighbours.knows.Goals as goal

pub returns : goal.returns
returns g c = rw (← c.self.view_is) (c.is_some.ensures ∙ ap is_some c.get.ensures ∙ known_seen g.F.Addr.Ord.cmp g.F.Family.bytes_of g.met.F.Family.order_of_bytes c.self.inside.moment c.args.from c.self.inside.roster.neighbours.entries)
