use Rattle.pim_jp.proofs.Words.{◌∙◌, ap, is_lt}
use Rattle.pim_jp.proofs.SortedSources.{missed_at_end, missed_inside}
use Rattle.pim_jp.proofs.clashes.pairs.is_between.Goals as goal

pub returns-then-next-sorted : goal.returns-then-next-sorted
returns-then-next-sorted g c = λ _.
    missed_at_end g.F.Family.value_of g.F.Number.Ord.cmp g.met.F.Family.order_of_numbers c.args.sorted.now c.args.number c.index-sorted-guess.result c.args.guess c.from.result c.is_lt-is_above.result
    c.requires.sorted c.requires.bound c.index-sorted-guess.is (c.is_lt-is_above.ensures ∙ ap is_lt c.cmp.ensures) c.from.ensures c.if-next-sorted.true

pub returns : goal.returns
returns g c =
    missed_inside g.F.Family.value_of g.F.Number.Ord.cmp g.met.F.Family.order_of_numbers c.args.sorted.now c.args.number c.index-sorted-guess.result c.args.guess c.from.result c.is_lt-is_above.result
    c.requires.sorted c.requires.bound c.index-sorted-guess.is (c.is_lt-is_above.ensures ∙ ap is_lt c.cmp.ensures) c.from.ensures
    c.index-sorted-next.result c.is_lt.result c.index-sorted-next.is (c.is_lt.ensures ∙ ap is_lt c.cmp-2.ensures)
