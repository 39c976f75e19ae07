use Rattle.sorted_slab.proofs.Words.{lit<, sym, subst, All, items, Listed}
use Rattle.sorted_slab.proofs.Kept.{can_compare, found_place}
use Rattle.sorted_slab.proofs.slab_list.SortedSlab.find.Goals as goal

pub find-requires : goal.find-requires
find-requires g c = (lit< tt, can_compare (g.P.Probe.can_compare c.args.probe.now) c.self.inside.slab (items c.self.inside.index) c.self.invariant (subst (λ (m : Listed g.row.T.Denot). All (g.P.Probe.can_compare c.args.probe.now) m.items) (sym c.self.view_is) c.requires))

pub returns : goal.returns
returns g c = found_place c.self.inside.slab c.self.inside.index g.row.HALF c.args.self.now c.self.view_is c.self.invariant (g.P.Probe.order c.args.probe.now) c.find.result (c.place_is_within.ensures c.self.inside.index) c.find.ensures
