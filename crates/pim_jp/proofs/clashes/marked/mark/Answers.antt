use Rattle.std.proofs.Common.{◌∙◌, ◌<◌, sym, length, rules}
use Rattle.pim_jp.proofs.SortedSources.{next_place, found_or_missed}
use Rattle.pim_jp.proofs.Marks.{marked_more}
use Rattle.pim_jp.proofs.clashes.marked.mark.Goals as goal

pub returns-clause-marked : goal.returns-clause-marked
returns-clause-marked g c =
    let some : 0 < length c.args.sorted.now = search rules in
    let next = next_place c.count_below-below.result (length c.args.sorted.now) c.from.result c.from.ensures c.count_below-below.ensures.bound some in
    marked_more g.F.Family.value_of c.args.sorted.now c.args.marks.now _ c.index-sorted-next.result c.args.number c.is_set-was.result c.eq-is_there.result
    next.0 c.requires.room c.index-sorted-next.is c.is_set-was.ensures
    (found_or_missed g.F.Family.value_of g.F.Number.Ord.cmp g.met.F.Family.order_of_numbers g.F.Number.PartialEq.eq c.args.sorted.now c.args.number c.index-sorted-next.result
    c.count_below-below.result _ g.met.F.Family.equality_of_numbers c.requires.sorted next.0 next.1 c.count_below-below.ensures.parted c.index-sorted-next.is c.eq-is_there.result c.eq-is_there.ensures)
    (λ yes. (g.met.F.Family.equality_of_numbers c.index-sorted-next.result c.args.number).0 (sym c.eq-is_there.ensures ∙ yes))
