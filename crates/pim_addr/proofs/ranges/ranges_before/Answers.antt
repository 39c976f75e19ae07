use Rattle.pim_addr.proofs.RangeEnds.{sorted, counted}
use Rattle.pim_addr.proofs.ranges.ranges_before.Goals as goal

pub count_below-requires : goal.count_below-requires
count_below-requires g c = sorted g.F.Family.value_of g.F.Number.Ord.cmp g.met.F.Family.order_of_numbers 0 c.args.ends.now c.requires

pub returns : goal.returns
returns g c = counted g.F.Family.value_of g.F.Number.Ord.cmp g.met.F.Family.order_of_numbers c.args.ends.now c.args.number c.count_below.result c.count_below.ensures.bound c.count_below.ensures.parted
