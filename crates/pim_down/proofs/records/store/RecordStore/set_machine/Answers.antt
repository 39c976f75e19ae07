use Rattle.pim_down.proofs.Words.{◌≡◌, ◌<◌, length, set, refl, ap, sym, subst, lit<, arith, length-set, Listed, at, numbers, PendingTimer, ExpiryTimer, Held}
use Rattle.sorted_blocks.specs.Shape.{items as numbers_of}
use Rattle.pim_down.proofs.Counts.{kept_set}
use Rattle.pim_down.proofs.Numbered.{room_among, timers_set}
use Rattle.pim_down.proofs.records.store.RecordStore.set_machine.Goals as goal

pub change_all-requires : goal.change_all-requires
change_all-requires g c =
    let s = c.self.inside in
    let within : at s.list c.args.place < length s.list.items = subst (λ (l : Listed (Held g.row.A.Denot)). at l c.args.place < length l.items) (sym c.self.view_is) c.requires.1 in
    (lit< tt, room_among g.O.KeyOrder.bytes_of s.list s.schedule.pending s.schedule.expiry s.room c.self.invariant.1 (at s.list c.args.place) within)

pub invariant_of-self : goal.invariant_of-self
invariant_of-self g c =
    let bytes_of = g.O.KeyOrder.bytes_of in
    let s = c.self.inside in
    let timed = c.self.invariant.1 in
    let within : at s.list c.args.place < length s.list.items = subst (λ (l : Listed (Held g.row.A.Denot)). at l c.args.place < length l.items) (sym c.self.view_is) c.requires.1 in
    let old = c.get.result.now in
    let one : Held g.row.A.Denot = record { key = old.key; machine = c.args.machine } in
    let new = c.set.new.self in
    let slab = c.slab.result.now in
    let i = at s.list c.args.place in
    let items : new.items ≡ set s.list.items i one = c.set.ensures.items in
    let change = c.change_all.ensures in (
      kept_set s.counts s.rpts s.list new c.self.told.0 c.self.told.1 c.self.invariant.0 i old one within c.get.ensures refl items c.set.ensures.capacity,
      record {
        prunes = timers_set bytes_of PendingTimer slab (numbers s.list) s.list.items c.slab.ensures.count c.slab.ensures.item i c.number_of-number.result old within c.number_of-number.ensures c.get.ensures s.schedule.pending.alarms c.change_all.new.self.pending.alarms c.args.machine (numbers new) new.items (ap numbers_of c.set.ensures.index) items timed.prunes change.pending;
        expiries = timers_set bytes_of ExpiryTimer slab (numbers s.list) s.list.items c.slab.ensures.count c.slab.ensures.item i c.number_of-number.result old within c.number_of-number.ensures c.get.ensures s.schedule.expiry.alarms c.change_all.new.self.expiry.alarms c.args.machine (numbers new) new.items (ap numbers_of c.set.ensures.index) items timed.expiries change.expiry;
        fits = omega (arith, timed.fits, ap length items, length-set s.list.items i one);
        prune_room = omega (arith, timed.prune_room, change.pending_room);
        expiry_room = omega (arith, timed.expiry_room, change.expiry_room);
        small = timed.small;
      },
    )
