use Rattle.sorted_slab.proofs.Kept.{seen_item, index_item}
use Rattle.sorted_slab.proofs.slab_list.SortedSlab.is_item.Goals as goal

pub returns : goal.returns
returns g c = (
  λ stands. let there = c.is_item.ensures.0 stands in seen_item c.self.inside.slab c.self.inside.index g.row.HALF c.args.self.now c.self.view_is c.self.invariant c.args.place there (c.item_has_a_place.ensures _ _ there).1,
  λ there. c.is_item.ensures.1 (index_item c.self.inside.slab c.self.inside.index g.row.HALF c.args.self.now c.self.view_is c.self.invariant c.args.place there),
)
