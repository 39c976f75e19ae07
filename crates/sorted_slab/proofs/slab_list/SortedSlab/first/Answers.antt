use Rattle.sorted_slab.proofs.Words.{◌<◌, length, arith, items}
use Rattle.sorted_slab.proofs.Kept.{seen_length, seen_item}
use Rattle.sorted_slab.proofs.slab_list.SortedSlab.first.Goals as goal

pub returns-clause-item : goal.returns-clause-item
returns-clause-item g c some =
    let any : 0 < length (items c.self.inside.index) = omega (arith, some, seen_length c.self.inside.slab c.self.inside.index g.row.HALF c.args.self.now c.self.view_is c.self.invariant) in
    seen_item c.self.inside.slab c.self.inside.index g.row.HALF c.args.self.now c.self.view_is c.self.invariant c.first.result (c.first.ensures.item any) (omega (arith, any, c.first.ensures.before))
