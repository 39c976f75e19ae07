use Rattle.pim_down.proofs.Words.{from_bool, ℕ, List, [], ◌≡◌, ◌<◌, ◌≤◌, length, get_or, sym, ap, subst, arith, lit<, ◌∙◌, remove, Listed, at, numbers, PendingTimer, ExpiryTimer, Held}
use Rattle.pim_down.proofs.Counts.{one_longer, few, few_rpts_on, few_rpts, kept_in, kept_as}
use Rattle.pim_down.proofs.Numbered.{room_for, at_insert, remove_insert, timers_in}
use Rattle.pim_down.proofs.records.store.RecordStore.insert_within.Goals as goal

pub start_all-requires : goal.start_all-requires
start_all-requires g c =
    let s = c.self.inside in
    let room = subst (λ (l : Listed (Held g.row.A.Denot)). length l.items < l.capacity) (sym c.self.view_is) c.requires.within in
    (lit< tt, room_for g.O.KeyOrder.bytes_of s.list s.schedule.pending s.schedule.expiry s.room c.self.invariant.1 (omega (arith, room)))

pub count_in-requires : goal.count_in-requires
count_in-requires g c =
    let s = c.self.inside in
    let room = subst (λ (l : Listed (Held g.row.A.Denot)). length l.items < l.capacity) (sym c.self.view_is) c.requires.within in
    omega (arith, room, few s.counts s.rpts s.list s.list c.self.told.0 c.self.told.1 c.self.invariant.0 c.args.held.key.port, c.capacity-most.ensures, c.capacity-most.type_inv)

pub count_in-requires-2 : goal.count_in-requires-2
count_in-requires-2 g c =
    let s = c.self.inside in
    let none : g.row.A.Denot → List ℕ = λ _. [] in
    let room = subst (λ (l : Listed (Held g.row.A.Denot)). length l.items < l.capacity) (sym c.self.view_is) c.requires.within in
    omega (
      arith,
      room,
      few_rpts_on s.counts s.rpts s.list s.list c.self.told.0 c.self.told.1 c.self.invariant.0 c.args.held.key.port,
      c.from-rpts.ensures,
      ap from_bool (c.is_rpt.ensures none),
      few_rpts none c.args.held,
      c.capacity-most.ensures,
      c.capacity-most.type_inv,
    )

pub invariant_of-self : goal.invariant_of-self
invariant_of-self g c =
    let bytes_of = g.O.KeyOrder.bytes_of in
    let s = c.self.inside in
    let timed = c.self.invariant.1 in
    let room = subst (λ (l : Listed (Held g.row.A.Denot)). length l.items < l.capacity) (sym c.self.view_is) c.requires.within in
    let put = c.insert_within-stands.ensures in
    let new = c.insert_within-stands.new.self in
    let slab = c.slab.result.now in
    let held = c.args.held in
    let i = at s.list c.args.place in
    let n = c.number_of-number.result in
    let long = ap length put.items in
    let more = one_longer s.list.items i held in
    let within : i < length new.items = omega (arith, put.place.1, put.at) in
    let low : i ≤ length s.list.items = omega (arith, within, long, more) in
    let number : n ≡ get_or (numbers new) i n = c.number_of-number.ensures ∙ ap (λ k. get_or (numbers new) k n) put.at in
    let here : held ≡ get_or new.items i held = sym (ap (λ xs. get_or xs i held) put.items ∙ at_insert s.list.items i held held low) in
    let was : remove new.items i ≡ s.list.items = ap (λ xs. remove xs i) put.items ∙ remove_insert s.list.items i held low in
    let start = c.start_all.ensures in
    let kept = kept_in s.counts s.rpts s.list new c.self.told.0 c.self.told.1 c.self.invariant.0 i held c.from-rpts.result (omega (arith, room))
    (λ bytes_of. c.from-rpts.ensures ∙ ap from_bool (c.is_rpt.ensures bytes_of)) put.items put.capacity in (
      kept_as _ _ c.count_in.new.counts c.count_in-2.new.counts new c.count_in.ensures c.count_in-2.ensures kept,
      record {
        prunes = timers_in bytes_of PendingTimer slab (numbers new) new.items c.slab.ensures.count c.slab.ensures.item i n held within number here (numbers s.list) s.list.items s.schedule.pending.alarms c.start_all.new.self.pending.alarms put.numbers was timed.prunes start.pending;
        expiries = timers_in bytes_of ExpiryTimer slab (numbers new) new.items c.slab.ensures.count c.slab.ensures.item i n held within number here (numbers s.list) s.list.items s.schedule.expiry.alarms c.start_all.new.self.expiry.alarms put.numbers was timed.expiries start.expiry;
        fits = omega (arith, room, long, more);
        prune_room = omega (arith, timed.prune_room, start.pending_room);
        expiry_room = omega (arith, timed.expiry_room, start.expiry_room);
        small = timed.small;
      },
    )
