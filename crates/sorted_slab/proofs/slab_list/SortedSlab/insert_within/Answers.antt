use Rattle.sorted_slab.proofs.Words.{lit<, sym, ap, refl, subst, ◌∙◌, ◌≡◌, arith, insert, remove, get, items, before, Listed, found, at, numbers, IsSound}
use Rattle.sorted_slab.proofs.Found.{remove_insert}
use Rattle.sorted_slab.proofs.Kept.{slab_room, index_room, index_place, inserted, sound_insert, seen_item}
use Rattle.sorted_slab.proofs.slab_list.SortedSlab.insert_within.Goals as goal

pub insert_reserved-number-requires : goal.insert_reserved-number-requires
insert_reserved-number-requires g c = slab_room c.self.inside.slab c.self.inside.index g.row.HALF c.args.self.now c.self.view_is c.self.invariant 1 (omega (arith, c.requires.within))

pub insert_within-requires : goal.insert_within-requires
insert_within-requires g c = (lit< tt, (index_place c.self.inside.slab c.self.inside.index g.row.HALF c.args.self.now c.self.view_is c.self.invariant c.args.place c.requires.place, omega (arith, index_room c.self.inside.slab c.self.inside.index g.row.HALF c.args.self.now c.self.view_is c.self.invariant 1 (omega (arith, c.requires.within)))))

pub invariant_of-self : goal.invariant_of-self
invariant_of-self g c =
    let put = c.insert_reserved-number.ensures in
    let within = c.place_is_within.ensures c.self.inside.index c.args.place (index_place c.self.inside.slab c.self.inside.index g.row.HALF c.args.self.now c.self.view_is c.self.invariant c.args.place c.requires.place) in
    subst (IsSound c.insert_reserved-number.new.self) (sym c.insert_within.ensures.items) (sound_insert c.self.inside.slab c.insert_reserved-number.new.self (items c.self.inside.index) (before c.self.inside.index c.args.place) c.insert_reserved-number.result c.args.item within c.self.invariant put.was_vacant put.updates put.len)

pub returns-clause-items : goal.returns-clause-items
returns-clause-items g c =
    let put = c.insert_reserved-number.ensures in
    let within = c.place_is_within.ensures c.self.inside.index c.args.place (index_place c.self.inside.slab c.self.inside.index g.row.HALF c.args.self.now c.self.view_is c.self.invariant c.args.place c.requires.place) in
    ap (found (get c.insert_reserved-number.new.self)) c.insert_within.ensures.items
    ∙ inserted c.self.inside.slab c.insert_reserved-number.new.self (items c.self.inside.index) (before c.self.inside.index c.args.place) c.insert_reserved-number.result c.args.item within c.self.invariant put.was_vacant put.updates
    ∙ ap (λ (m : Listed g.row.T.Denot). insert m.items (at m c.args.place) c.args.item) c.self.view_is

pub returns-clause-place : goal.returns-clause-place
returns-clause-place g c =
    let there = c.insert_within.ensures.place in
    seen_item c.insert_reserved-number.new.self c.insert_within.new.self g.row.HALF _ refl (invariant_of-self g c) c.insert_within.result there (c.item_has_a_place.ensures _ _ there).1

pub returns-clause-numbers : goal.returns-clause-numbers
returns-clause-numbers g c =
    let i = before c.self.inside.index c.args.place in
    let within = c.place_is_within.ensures c.self.inside.index c.args.place (index_place c.self.inside.slab c.self.inside.index g.row.HALF c.args.self.now c.self.view_is c.self.invariant c.args.place c.requires.place) in
    subst (λ (m : Listed g.row.T.Denot). remove (items c.insert_within.new.self) (at m c.args.place) ≡ numbers m) c.self.view_is
    (ap (λ ms. remove ms i) c.insert_within.ensures.items ∙ remove_insert (items c.self.inside.index) i c.insert_reserved-number.result within)
