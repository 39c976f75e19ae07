use Rattle.pim_down.proofs.Words.{items, before, alarm_seen}
use Rattle.pim_down.proofs.AlarmOrder.{put_equal, put_gap}
use Rattle.pim_down.proofs.records.alarms.slot_of.Goals as goal

pub returns-in-Ok-clause-slot : goal.returns-in-Ok-clause-slot
returns-in-Ok-clause-slot g c timers known kept =
    let list = c.args.list.now in
    let bytes_of = g.O.KeyOrder.bytes_of in
    put_equal bytes_of c.args.slab.now (alarm_seen bytes_of c.args.key c.args.alarm) timers known (items list) kept (before list c.in-Ok.place) (c.in-Ok.ensures {u = tt}).1

pub returns-in-Err-clause-slot : goal.returns-in-Err-clause-slot
returns-in-Err-clause-slot g c timers known kept =
    let list = c.args.list.now in
    let bytes_of = g.O.KeyOrder.bytes_of in
    let found = c.in-Err.ensures {u = tt} in
    put_gap bytes_of c.args.slab.now (alarm_seen bytes_of c.args.key c.args.alarm) timers known (items list) kept (before list c.in-Err.place) (c.place_is_within.ensures list c.in-Err.place found.0) found.1
