use Rattle.sorted_slab.proofs.Words.{◌≡◌, get_or, subst, items, before, Listed, at}
use Rattle.sorted_slab.proofs.Kept.{index_within, is_held, item_is}
use Rattle.sorted_slab.proofs.slab_list.SortedSlab.get.Goals as goal

pub index-requires : goal.index-requires
index-requires g c = is_held c.self.inside.slab (items c.self.inside.index) (before c.self.inside.index c.args.place) c.get-number.result.now (index_within c.self.inside.slab c.self.inside.index g.row.HALF c.args.self.now c.self.view_is c.self.invariant c.args.place c.requires) c.self.invariant c.get-number.ensures

pub returns : goal.returns
returns g c =
    let x = c.index.result.now in
    subst (λ (m : Listed g.row.T.Denot). x ≡ get_or m.items (at m c.args.place) x) c.self.view_is (item_is c.self.inside.slab (items c.self.inside.index) (before c.self.inside.index c.args.place) c.get-number.result.now x (index_within c.self.inside.slab c.self.inside.index g.row.HALF c.args.self.now c.self.view_is c.self.invariant c.args.place c.requires) c.self.invariant c.get-number.ensures c.index.ensures)
