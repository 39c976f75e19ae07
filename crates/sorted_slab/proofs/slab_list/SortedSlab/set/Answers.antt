use Rattle.sorted_slab.proofs.Words.{set, ap, ◌∙◌, items, before, Listed, at}
use Rattle.sorted_slab.proofs.Kept.{index_within, is_held, sound_set, was_set}
use Rattle.sorted_slab.proofs.slab_list.SortedSlab.set.Goals as goal

pub index_mut-requires : goal.index_mut-requires
index_mut-requires g c = is_held c.self.inside.slab (items c.self.inside.index) (before c.self.inside.index c.args.place) c.get-number.result.now (index_within c.self.inside.slab c.self.inside.index g.row.HALF c.args.self.now c.self.view_is c.self.invariant c.args.place c.requires) c.self.invariant c.get-number.ensures

pub invariant_of-self : goal.invariant_of-self
invariant_of-self g c = sound_set c.self.inside.slab (items c.self.inside.index) (before c.self.inside.index c.args.place) c.get-number.result.now c.args.item (index_within c.self.inside.slab c.self.inside.index g.row.HALF c.args.self.now c.self.view_is c.self.invariant c.args.place c.requires) c.self.invariant c.get-number.ensures

pub returns-clause-items : goal.returns-clause-items
returns-clause-items g c =
    was_set c.self.inside.slab (items c.self.inside.index) (before c.self.inside.index c.args.place) c.get-number.result.now c.args.item (index_within c.self.inside.slab c.self.inside.index g.row.HALF c.args.self.now c.self.view_is c.self.invariant c.args.place c.requires) c.self.invariant c.get-number.ensures
    ∙ ap (λ (m : Listed g.row.T.Denot). set m.items (at m c.args.place) c.args.item) c.self.view_is
