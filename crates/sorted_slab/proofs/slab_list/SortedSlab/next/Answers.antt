use Rattle.sorted_slab.proofs.Words.{◌<◌, ◌+◌, length, arith, items, before}
use Rattle.sorted_slab.proofs.Kept.{seen_length, seen_at, seen_item}
use Rattle.sorted_slab.proofs.slab_list.SortedSlab.next.Goals as goal

pub returns-clause-item : goal.returns-clause-item
returns-clause-item g c more =
    let any : before c.self.inside.index c.args.place + 1 < length (items c.self.inside.index) = omega (arith, more, seen_at c.self.inside.slab c.self.inside.index g.row.HALF c.args.self.now c.self.view_is c.self.invariant c.args.place, seen_length c.self.inside.slab c.self.inside.index g.row.HALF c.args.self.now c.self.view_is c.self.invariant) in
    seen_item c.self.inside.slab c.self.inside.index g.row.HALF c.args.self.now c.self.view_is c.self.invariant c.next.result (c.next.ensures.item any) (omega (arith, any, c.next.ensures.before))
