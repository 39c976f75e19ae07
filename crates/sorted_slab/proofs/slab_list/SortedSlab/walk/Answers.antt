use Rattle.sorted_slab.proofs.Words.{take, drop, ap, ◌∙◌, get, items, before, Listed, found, at}
use Rattle.sorted_slab.proofs.Found.{held_drop, found_drop}
use Rattle.sorted_slab.proofs.slab_list.SortedSlab.walk.Goals as goal

pub invariant_of-result : goal.invariant_of-result
invariant_of-result g c = rw c.iter_from.ensures (held_drop c.self.inside.slab (items c.self.inside.index) (before c.self.inside.index c.args.place) c.self.invariant.held)

pub returns : goal.returns
returns g c =
    let from = found_drop c.self.inside.slab (items c.self.inside.index) (before c.self.inside.index c.args.place) c.self.invariant.held in
    let seen = ap (λ (m : Listed g.row.T.Denot). drop (at m c.args.place) m.items) c.self.view_is in
    ap (λ ns. take c.args.count (found (get c.self.inside.slab) ns)) c.iter_from.ensures ∙ ap (take c.args.count) (from ∙ seen)
