use Rattle.pim_down.proofs.Words.{length, ap, arith, items, before, key_seen}
use Rattle.pim_down.proofs.RunPut.{put_run_after, row_is, length_spliced}
use Rattle.pim_down.proofs.records.alarms.put_run_after.Goals as goal

pub returns-in-Some-clause-alarms : goal.returns-in-Some-clause-alarms
returns-in-Some-clause-alarms g c number run timers long known kept here =
    let list = c.args.list.now in
    let numbers = c.args.numbers.now in
    let count = c.count_ascending-count.result in
    let row = row_is c.args.to count numbers c.split_at.result.0.now c.write_run.new.row c.split_at-2.result.0.now c.count_ascending-count.ensures.numbers c.split_at.ensures.front c.write_run.ensures c.split_at-2.ensures.front in
    put_run_after g.O.KeyOrder.bytes_of c.args.slab.now c.args.to count number (before list c.args.stands) (before list c.next-place.result) (key_seen g.O.KeyOrder.bytes_of c.args.key.now) numbers run timers (items list) (items c.insert_in_block.new.self) c.split_at-2.result.0.now
    c.count_ascending-count.ensures.ascend long known kept (c.item_has_a_place.ensures list c.args.stands c.requires).1 c.next-place.ensures.before here
    (λ d w. c.ends_later.ensures d c.if-not-ends_later.false w) row c.in-Some.ensures.some.0

pub returns-in-Some-clause-more : goal.returns-in-Some-clause-more
returns-in-Some-clause-more g c =
    let list = c.args.list.now in
    let place = c.next-place.result in
    let within = c.place_is_within.ensures list place c.next-place.ensures.place in
    omega (arith, ap length c.in-Some.ensures.some.0, length_spliced (items list) (before list place) c.split_at-2.result.0.now within, c.split_at-2.ensures.front_len)
