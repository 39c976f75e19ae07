use Rattle.sorted_slab.proofs.Words.{sym, ap, subst, ◌≡◌, ◌∙◌, get_or, remove, get, items, before, Listed, found, at, IsSound}
use Rattle.sorted_slab.proofs.Kept.{index_within, is_held, item_is, removed, sound_remove}
use Rattle.sorted_slab.proofs.slab_list.SortedSlab.remove.Goals as goal

pub remove-item-requires : goal.remove-item-requires
remove-item-requires g c = is_held c.self.inside.slab (items c.self.inside.index) (before c.self.inside.index c.args.place) c.remove-number.result.0 (index_within c.self.inside.slab c.self.inside.index g.row.HALF c.args.self.now c.self.view_is c.self.invariant c.args.place c.requires) c.self.invariant c.remove-number.ensures.item

pub invariant_of-self : goal.invariant_of-self
invariant_of-self g c =
    let out = c.remove-item.ensures in
    subst (IsSound c.remove-item.new.self) (sym c.remove-number.ensures.items) (sound_remove c.self.inside.slab c.remove-item.new.self (items c.self.inside.index) (before c.self.inside.index c.args.place) c.remove-number.result.0 (index_within c.self.inside.slab c.self.inside.index g.row.HALF c.args.self.now c.self.view_is c.self.invariant c.args.place c.requires) c.self.invariant c.remove-number.ensures.item out.updates out.len)

pub returns-clause-item : goal.returns-clause-item
returns-clause-item g c =
    let x = c.remove-item.result in
    subst (λ (m : Listed g.row.T.Denot). x ≡ get_or m.items (at m c.args.place) x) c.self.view_is (item_is c.self.inside.slab (items c.self.inside.index) (before c.self.inside.index c.args.place) c.remove-number.result.0 x (index_within c.self.inside.slab c.self.inside.index g.row.HALF c.args.self.now c.self.view_is c.self.invariant c.args.place c.requires) c.self.invariant c.remove-number.ensures.item c.remove-item.ensures.value)

pub returns-clause-items : goal.returns-clause-items
returns-clause-items g c =
    ap (found (get c.remove-item.new.self)) c.remove-number.ensures.items
    ∙ removed c.self.inside.slab c.remove-item.new.self (items c.self.inside.index) (before c.self.inside.index c.args.place) c.remove-number.result.0 (index_within c.self.inside.slab c.self.inside.index g.row.HALF c.args.self.now c.self.view_is c.self.invariant c.args.place c.requires) c.self.invariant c.remove-number.ensures.item c.remove-item.ensures.updates
    ∙ ap (λ (m : Listed g.row.T.Denot). remove m.items (at m c.args.place)) c.self.view_is
