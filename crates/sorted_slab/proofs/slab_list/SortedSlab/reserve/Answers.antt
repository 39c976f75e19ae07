use Rattle.sorted_slab.proofs.Words.{sym, ap, subst, arith, false≢true, Slab, items, IsSound}
use Rattle.sorted_slab.proofs.Found.{length_found}
use Rattle.sorted_slab.proofs.Kept.{slab_room, index_room, sound_same, on_ok}
use Rattle.sorted_slab.proofs.slab_list.SortedSlab.reserve.Goals as goal

pub invariant_of-self : goal.invariant_of-self
invariant_of-self g c = sound_same c.self.inside.slab c.reserve.new.self (items c.self.inside.index) (ap (λ (s : Slab g.row.T.Denot). s.slots) c.reserve.ensures.rest_kept) c.self.invariant

pub returns-in_err-reserve-clause-fits : goal.returns-in_err-reserve-clause-fits
returns-in_err-reserve-clause-fits g c fits = absurd (false≢true ((c.in_err-reserve.ensures {u = tt}).succeeds (slab_room c.self.inside.slab c.self.inside.index g.row.HALF c.args.self.now c.self.view_is c.self.invariant c.args.additional fits)))

pub invariant_of-self-2 : goal.invariant_of-self-2
invariant_of-self-2 g c =
    let same = sound_same c.self.inside.slab c.reserve.new.self (items c.self.inside.index) (ap (λ (s : Slab g.row.T.Denot). s.slots) c.reserve.ensures.rest_kept) c.self.invariant in
    subst (IsSound c.reserve.new.self) (sym c.reserve_capacity.ensures.items) same

pub returns-clause-ok : goal.returns-clause-ok
returns-clause-ok g c =
    let sound = invariant_of-self-2 g c in
    let count = length_found c.reserve.new.self (items c.reserve_capacity.new.self) sound.held in
    on_ok c.reserve_capacity.result c.reserve_capacity.ensures.ok (λ fits. omega (arith, fits, count, (c.in_ok-reserve.ensures {u = tt}).room, sound.nothing_else))

pub returns-clause-fits : goal.returns-clause-fits
returns-clause-fits g c fits = c.reserve_capacity.ensures.fits (index_room c.self.inside.slab c.self.inside.index g.row.HALF c.args.self.now c.self.view_is c.self.invariant c.args.additional fits)
