use Rattle.pim_down.proofs.Words.{◌≡◌, ℕ, ◌<◌, ◌+◌, ◌≤◌, List, Some, length, map, take, drop, ap, sym, subst, lit<, arith, ◌∙◌, All, take-take, length-take-le, All-take, Shape, before, Listed, at, numbers, IsItem, PendingTimer, ExpiryTimer, Held, with_run, Numbered, alarm_of, AreKnown}
use Rattle.sorted_blocks.specs.Shape.{items as numbers_of}
use Rattle.sorted_blocks.specs.Places.{IsItem as IsIndexItem}
use Rattle.pim_down.proofs.Numbered.{room_among, timers}
use Rattle.pim_down.proofs.PutOff.{length_put_off, prunes_stay, expiries_move}
use Rattle.pim_down.proofs.records.store.RecordStore.put_off.Goals as goal

pub put_off-moved-requires : goal.put_off-moved-requires
put_off-moved-requires g c =
    let s = c.self.inside in
    let within : at s.list c.args.place < length s.list.items = subst (λ (l : Listed (Held g.row.A.Denot)). at l c.args.place < length l.items) (sym c.self.view_is) c.requires.place.1 in
    (lit< tt, (room_among g.O.KeyOrder.bytes_of s.list s.schedule.pending s.schedule.expiry s.room c.self.invariant.1 (at s.list c.args.place) within).1)

pub invariant_of-self : goal.invariant_of-self
invariant_of-self g c =
    let bytes_of = g.O.KeyOrder.bytes_of in
    let s = c.self.inside in
    let timed = c.self.invariant.1 in
    let i = at s.list c.args.place in
    let n = c.put_off-moved.result in
    let ns = numbers s.list in
    let olds = s.list.items in
    let slab = c.slab.result.now in
    let new = c.put_off_rows.new.list in
    let row = c.numbers_from-numbers.result.now in
    let ended = λ (h : Held g.row.A.Denot). h.machine.expires_at ≡ Some c.args.from in
    let item : IsItem s.list c.args.place = subst (λ (l : Listed (Held g.row.A.Denot)). IsItem l c.args.place) (sym c.self.view_is) c.requires.place in
    let whole : i + c.args.count ≤ length olds = subst (λ (l : Listed (Held g.row.A.Denot)). at l c.args.place + c.args.count ≤ length l.items) (sym c.self.view_is) c.requires.within in
    let all : All ended (take c.args.count (drop i olds)) = subst (λ (l : Listed (Held g.row.A.Denot)). All ended (take c.args.count (drop (at l c.args.place) l.items))) (sym c.self.view_is) c.requires.ends in
    let of_front = length-take-le c.min.result row (omega (arith, c.min.ensures)) in
    let few : n ≤ c.min.result = omega (arith, c.put_off-moved.ensures.numbers, ap length c.split_at.ensures.front, of_front) in
    let within : i + n ≤ length olds = omega (arith, whole, few, c.min.ensures) in
    let ends : All ended (take n (drop i olds)) = subst (All ended) (take-take n c.args.count (drop i olds) (omega (arith, few, c.min.ensures))) (All-take ended n (take c.args.count (drop i olds)) all) in
    let run : take n c.split_at.result.0.now ≡ take n (drop i ns) =
    ap (take n) c.split_at.ensures.front ∙ take-take n c.min.result row few
    ∙ ap (take n) (c.numbers_from-numbers.ensures.row (c.item_has_a_place.ensures s.list.index c.args.place item.0).0) ∙ take-take n (length row) (drop i ns) (omega (arith, few, c.min.ensures)) in
    let count = c.slab.ensures.count in
    let items = c.put_off_rows.ensures.items in
    let same = ap numbers_of c.put_off_rows.ensures.index in
    let move = c.put_off-moved.ensures in (
      c.put_off_rows.ensures.kept s.counts s.rpts c.self.told.0 c.self.told.1 c.self.invariant.0,
      record {
        prunes = move.pending ∙ timed.prunes ∙ ap (map alarm_of) (sym (prunes_stay bytes_of ns olds i n count within c.args.to)) ∙ (λ k. map alarm_of (timers bytes_of PendingTimer (sym same k) (sym items k)));
        expiries =
            expiries_move bytes_of ns olds i n count within slab c.slab.ensures.item c.args.from c.args.to s.schedule.expiry.alarms c.put_off-moved.new.self.expiry.alarms ends timed.expiries
            (subst (λ (ks : List ℕ). (xs : List (Held g.row.A.Denot)) (ts : List Numbered) → length xs ≡ n → AreKnown bytes_of slab (with_run bytes_of c.args.from ks xs ts) → s.schedule.expiry.alarms ≡ map alarm_of (with_run bytes_of c.args.from ks xs ts) → c.put_off-moved.new.self.expiry.alarms ≡ map alarm_of (with_run bytes_of c.args.to ks xs ts)) run move.expiry)
            ∙ (λ k. map alarm_of (timers bytes_of ExpiryTimer (sym same k) (sym items k)));
        fits = omega (arith, timed.fits, ap length items, length_put_off i n c.args.to olds within);
        prune_room = omega (arith, timed.prune_room, move.pending_room);
        expiry_room = omega (arith, timed.expiry_room, move.expiry_room);
        small = timed.small;
      },
    )

pub returns-clause-places : goal.returns-clause-places
returns-clause-places g c p item =
    let s = c.self.inside in
    let i = at s.list c.args.place in
    let n = c.put_off-moved.result in
    let olds = s.list.items in
    let new = c.put_off_rows.new.list in
    let was : IsItem s.list p = subst (λ (l : Listed (Held g.row.A.Denot)). IsItem l p) (sym c.self.view_is) item in
    let whole : i + c.args.count ≤ length olds = subst (λ (l : Listed (Held g.row.A.Denot)). at l c.args.place + c.args.count ≤ length l.items) (sym c.self.view_is) c.requires.within in
    let of_front = length-take-le c.min.result c.numbers_from-numbers.result.now (omega (arith, c.min.ensures)) in
    let within : i + n ≤ length olds = omega (arith, whole, c.put_off-moved.ensures.numbers, ap length c.split_at.ensures.front, of_front, c.min.ensures) in
    let long = ap length c.put_off_rows.ensures.items ∙ length_put_off i n c.args.to olds within in
    let stays : at new p ≡ at s.list p = ap (λ (shape : Shape ℕ). before shape p) c.put_off_rows.ensures.index in
    let is : IsIndexItem new.index p = subst (λ (shape : Shape ℕ). IsIndexItem shape p) (sym c.put_off_rows.ensures.index) was.0 in
    (is, omega (arith, was.1, long, stays))
