use Rattle.std.proofs.Common.{◌<◌, length, rules}
use Rattle.pim_jp.proofs.SortedSources.{next_place, found_or_missed}
use Rattle.pim_jp.proofs.clashes.pairs.holds.Goals as goal

pub returns : goal.returns
returns g c =
    let some : 0 < length c.args.sorted.now = search rules in
    let next = next_place c.count_below-below.result (length c.args.sorted.now) c.from.result c.from.ensures c.count_below-below.ensures.bound some in
    found_or_missed g.F.Family.value_of g.F.Number.Ord.cmp g.met.F.Family.order_of_numbers g.F.Number.PartialEq.eq c.args.sorted.now c.args.number c.index-sorted-next.result
    c.count_below-below.result _ g.met.F.Family.equality_of_numbers c.requires next.0 next.1 c.count_below-below.ensures.parted c.index-sorted-next.is c.eq.result c.eq.ensures
