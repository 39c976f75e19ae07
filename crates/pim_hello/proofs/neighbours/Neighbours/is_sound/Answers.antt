use Rattle.pim_hello.proofs.Kept.{ascending_seen}
use Rattle.pim_hello.proofs.Words.{arith, rules, common_steps}
use Rattle.pim_hello.proofs.neighbours.Neighbours.is_sound.Goals as goal

pub returns : goal.returns
returns g c = rw (← c.self.view_is) (record {
  moment = search rules;
  limit = grind (arith, common_steps);
  ascending = ascending_seen g.F.Addr.Ord.cmp g.F.Family.bytes_of g.met.F.Family.order_of_bytes c.self.inside.moment c.self.inside.roster.neighbours.entries c.self.inside.roster.ascending;
})
