use Rattle.pim_down.proofs.Words.{◌<◌, length, ap, sym, subst, arith, ◌∙◌, from_bool, length-remove, Listed, at, numbers, PendingTimer, ExpiryTimer, Held}
use Rattle.pim_down.proofs.Counts.{some_out, some_rpt_out, kept_out, kept_as}
use Rattle.pim_down.proofs.Numbered.{timers_out}
use Rattle.pim_down.proofs.records.store.RecordStore.remove.Goals as goal

pub count_out-requires : goal.count_out-requires
count_out-requires g c =
    let s = c.self.inside in
    let within : at s.list c.args.place < length s.list.items = subst (λ (l : Listed (Held g.row.A.Denot)). at l c.args.place < length l.items) (sym c.self.view_is) c.requires.1 in
    some_out s.counts s.rpts s.list s.list c.self.told.0 c.self.told.1 c.self.invariant.0 (at s.list c.args.place) c.remove-gone.result.0 within c.remove-gone.ensures.item

pub count_out-requires-2 : goal.count_out-requires-2
count_out-requires-2 g c =
    let s = c.self.inside in
    let within : at s.list c.args.place < length s.list.items = subst (λ (l : Listed (Held g.row.A.Denot)). at l c.args.place < length l.items) (sym c.self.view_is) c.requires.1 in
    some_rpt_out s.counts s.rpts s.list s.list c.self.told.0 c.self.told.1 c.self.invariant.0 (at s.list c.args.place) c.remove-gone.result.0 c.from-rpts.result within c.remove-gone.ensures.item
    (λ bytes_of. c.from-rpts.ensures ∙ ap from_bool (c.is_rpt.ensures bytes_of))

pub invariant_of-self : goal.invariant_of-self
invariant_of-self g c =
    let bytes_of = g.O.KeyOrder.bytes_of in
    let s = c.self.inside in
    let timed = c.self.invariant.1 in
    let within : at s.list c.args.place < length s.list.items = subst (λ (l : Listed (Held g.row.A.Denot)). at l c.args.place < length l.items) (sym c.self.view_is) c.requires.1 in
    let out = c.remove-gone.ensures in
    let new = c.remove-gone.new.self in
    let slab = c.slab.result.now in
    let i = at s.list c.args.place in
    let stop = c.stop_all.ensures in
    let kept = kept_out s.counts s.rpts s.list new c.self.told.0 c.self.told.1 c.self.invariant.0 i c.remove-gone.result.0 c.from-rpts.result within out.item
    (λ bytes_of. c.from-rpts.ensures ∙ ap from_bool (c.is_rpt.ensures bytes_of)) out.items out.capacity in (
      kept_as _ _ c.count_out.new.counts c.count_out-2.new.counts new c.count_out.ensures c.count_out-2.ensures kept,
      record {
        prunes = timers_out bytes_of PendingTimer slab (numbers s.list) s.list.items c.slab.ensures.count c.slab.ensures.item i c.number_of-number.result c.get.result.now within c.number_of-number.ensures c.get.ensures s.schedule.pending.alarms c.stop_all.new.self.pending.alarms (numbers new) new.items out.numbers out.items timed.prunes stop.pending;
        expiries = timers_out bytes_of ExpiryTimer slab (numbers s.list) s.list.items c.slab.ensures.count c.slab.ensures.item i c.number_of-number.result c.get.result.now within c.number_of-number.ensures c.get.ensures s.schedule.expiry.alarms c.stop_all.new.self.expiry.alarms (numbers new) new.items out.numbers out.items timed.expiries stop.expiry;
        fits = omega (arith, timed.fits, ap length out.items, length-remove s.list.items i within);
        prune_room = omega (arith, timed.prune_room, stop.pending_room);
        expiry_room = omega (arith, timed.expiry_room, stop.expiry_room);
        small = timed.small;
      },
    )
