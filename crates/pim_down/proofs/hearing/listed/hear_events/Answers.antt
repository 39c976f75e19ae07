use Rattle.pim_down.proofs.Words.{◌+◌, ◌∙◌, sym, ap, arith, act, act_all, start_seen, records_seen, event_seen}
use Rattle.pim_down.proofs.Act.{IsAscending-act}
use Rattle.pim_down.proofs.Events.{room_at, left_at, room_grows}
use Rattle.pim_down.proofs.Listing.{seen_from, event_left, no_event_left, none_acts}
use Rattle.pim_down.proofs.hearing.listed.hear_events.Goals as goal

pub act_listed-last-requires-clause-room : goal.act_listed-last-requires-clause-room
act_listed-last-requires-clause-room g c =
    let bytes_of = g.F.Family.bytes_of in
    let events = c.args.events.now in
    let i = c.loop-index.index in
    let split = event_left bytes_of events i c.index-events-index.result c.loop-index-test.true c.index-events-index.is in
    (room_at c.args.arrival.port (start_seen c.args.arrival.start) c.loop-index.records.capacity (event_seen bytes_of c.index-events-index.result) (seen_from bytes_of i events) (seen_from bytes_of (i + 1) events) (records_seen bytes_of c.loop-index.records.items) split c.loop-index.invariant.room).0

pub loop-index-preserved : goal.loop-index-preserved
loop-index-preserved g c =
    let bytes_of = g.F.Family.bytes_of in
    let port = c.args.arrival.port in
    let start = start_seen c.args.arrival.start in
    let events = c.args.events.now in
    let i = c.loop-index.index in
    let event = event_seen bytes_of c.index-events-index.result in
    let all = seen_from bytes_of i events in
    let others = seen_from bytes_of (i + 1) events in
    let seen = records_seen bytes_of c.loop-index.records.items in
    let split = event_left bytes_of events i c.index-events-index.result c.loop-index-test.true c.index-events-index.is in
    let space = room_at port start c.loop-index.records.capacity event all others seen split c.loop-index.invariant.room in
    record {
      ascending = rw c.act_listed-last.ensures.records (IsAscending-act port start event seen c.loop-index.invariant.ascending);
      room = rw c.act_listed-last.ensures.records (room_grows port start c.loop-index.records.capacity c.act_listed-last.new.records.capacity others (act port start event seen) c.act_listed-last.ensures.capacity space.1);
      left = ap (act_all port start others) c.act_listed-last.ensures.records ∙ sym (left_at port start event all others seen split) ∙ c.loop-index.invariant.left;
      last = c.act_listed-last.ensures.last;
    }

pub returns : goal.returns
returns g c =
    let bytes_of = g.F.Family.bytes_of in
    sym (none_acts c.args.arrival.port (start_seen c.args.arrival.start) (seen_from bytes_of c.loop-index.index c.args.events.now) (records_seen bytes_of c.loop-index.records.items) (no_event_left bytes_of c.args.events.now c.loop-index.index (omega (arith, c.loop-index-test.false))))
    ∙ c.loop-index.invariant.left
