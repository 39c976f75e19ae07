use Rattle.pim_down.proofs.Words.{◌≡◌, option_map, subst, arith, ◌∙◌, slice_get, length-map, Listed, numbers, PendingTimer, ExpiryTimer, Held, deadline_seen, timers_of, record_seen, records_seen}
use Rattle.pim_down.proofs.Numbered.{timers, known_timers}
use Rattle.pim_down.proofs.Soonest.{first_of_both}
use Rattle.pim_down.proofs.records.store.RecordStore.first_timer.Goals as goal

pub returns : goal.returns
returns g c =
    let bytes_of = g.O.KeyOrder.bytes_of in
    let s = c.self.inside in
    let ns = numbers s.list in
    let slab = c.slab.result.now in
    let count = c.slab.ensures.count in
    let found = c.first.ensures (timers bytes_of PendingTimer ns s.list.items) (timers bytes_of ExpiryTimer ns s.list.items)
    (known_timers bytes_of PendingTimer slab ns s.list.items count c.slab.ensures.item) (known_timers bytes_of ExpiryTimer slab ns s.list.items count c.slab.ensures.item) c.self.invariant.1.prunes c.self.invariant.1.expiries in
    subst (λ (l : Listed (Held g.row.A.Denot)). option_map (deadline_seen bytes_of) c.first.result ≡ slice_get (timers_of (records_seen bytes_of l.items)) 0) c.self.view_is
    (found ∙ first_of_both ns (records_seen bytes_of s.list.items) (omega (arith, count, length-map s.list.items (record_seen bytes_of))))
