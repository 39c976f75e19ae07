use Rattle.pim_down.proofs.Words.{◌∙◌, List, sym, ap, subst, arith, entry_seen, Event, list_events, act_all, act, rp_of, HasRoom, start_seen, records_seen, event_seen}
use Rattle.pim_down.proofs.Act.{IsAscending-act}
use Rattle.pim_down.proofs.Events.{events_one, room_at, left_at, nothing_left, room_grows}
use Rattle.pim_down.proofs.Refreshed.{Follows, front_heard, no_event}
use Rattle.pim_down.proofs.hearing.message.hear_list.Goals as goal

pub act-requires-clause-ascending : goal.act-requires-clause-ascending
act-requires-clause-ascending g c =
    let bytes_of = g.F.Family.bytes_of in
    let known = rp_of g.F.Family.family c.args.routes.now in
    let group = bytes_of c.args.list.group in
    let start = start_seen c.args.arrival.start in
    let here = c.loop-entry.invariant in
    let front = c.refresh_front-taken in
    let seen = records_seen bytes_of front.new.records.items in
    let after : Follows c.args.arrival.port start known c.args.joins group front.new.records.capacity c.loop-entry.left (records_seen bytes_of c.loop-entry.records.items) front.new.entries seen =
    front_heard c.args.arrival.port start known c.args.joins group c.loop-entry.records.capacity front.new.records.capacity front.result c.loop-entry.left front.new.entries (records_seen bytes_of c.loop-entry.records.items) seen front.ensures.capacity front.ensures.entries (front.ensures.records known) here.ascending here.room in
    after.0

pub act-requires-clause-room : goal.act-requires-clause-room
act-requires-clause-room g c =
    let bytes_of = g.F.Family.bytes_of in
    let known = rp_of g.F.Family.family c.args.routes.now in
    let group = bytes_of c.args.list.group in
    let start = start_seen c.args.arrival.start in
    let here = c.loop-entry.invariant in
    let front = c.refresh_front-taken in
    let seen = records_seen bytes_of front.new.records.items in
    let after : Follows c.args.arrival.port start known c.args.joins group front.new.records.capacity c.loop-entry.left (records_seen bytes_of c.loop-entry.records.items) front.new.entries seen =
    front_heard c.args.arrival.port start known c.args.joins group c.loop-entry.records.capacity front.new.records.capacity front.result c.loop-entry.left front.new.entries (records_seen bytes_of c.loop-entry.records.items) seen front.ensures.capacity front.ensures.entries (front.ensures.records known) here.ascending here.room in
    let event = event_seen bytes_of c.in-Some-event_of.event in
    let rest = c.next.new.self in
    let split = events_one known c.args.joins group front.new.entries rest (entry_seen bytes_of c.in-Some.entry) event c.in-Some.ensures.steps c.in-Some-event_of.ensures in
    let space = room_at c.args.arrival.port start front.new.records.capacity event (list_events known c.args.joins group front.new.entries) (list_events known c.args.joins group rest) seen split after.1 in
    space.0

pub loop-entry-preserved-in-Some-event_of : goal.loop-entry-preserved-in-Some-event_of
loop-entry-preserved-in-Some-event_of g c =
    let bytes_of = g.F.Family.bytes_of in
    let known = rp_of g.F.Family.family c.args.routes.now in
    let group = bytes_of c.args.list.group in
    let start = start_seen c.args.arrival.start in
    let here = c.loop-entry.invariant in
    let front = c.refresh_front-taken in
    let seen = records_seen bytes_of front.new.records.items in
    let after : Follows c.args.arrival.port start known c.args.joins group front.new.records.capacity c.loop-entry.left (records_seen bytes_of c.loop-entry.records.items) front.new.entries seen =
    front_heard c.args.arrival.port start known c.args.joins group c.loop-entry.records.capacity front.new.records.capacity front.result c.loop-entry.left front.new.entries (records_seen bytes_of c.loop-entry.records.items) seen front.ensures.capacity front.ensures.entries (front.ensures.records known) here.ascending here.room in
    let event = event_seen bytes_of c.in-Some-event_of.event in
    let rest = c.next.new.self in
    let all = list_events known c.args.joins group front.new.entries in
    let others = list_events known c.args.joins group rest in
    let split = events_one known c.args.joins group front.new.entries rest (entry_seen bytes_of c.in-Some.entry) event c.in-Some.ensures.steps c.in-Some-event_of.ensures in
    let space = room_at c.args.arrival.port start front.new.records.capacity event all others seen split after.1 in
    record {
      ascending = rw c.act.ensures.records (IsAscending-act c.args.arrival.port start event seen after.0);
      room = rw c.act.ensures.records (room_grows c.args.arrival.port start front.new.records.capacity c.act.new.records.capacity others (act c.args.arrival.port start event seen) c.act.ensures.capacity space.1);
      left = ap (act_all c.args.arrival.port start others) c.act.ensures.records ∙ sym (left_at c.args.arrival.port start event all others seen split) ∙ after.2 ∙ here.left;
      capacity = omega (arith, c.act.ensures.capacity, front.ensures.capacity, here.capacity);
    }

pub loop-entry-preserved : goal.loop-entry-preserved
loop-entry-preserved g c =
    let bytes_of = g.F.Family.bytes_of in
    let known = rp_of g.F.Family.family c.args.routes.now in
    let group = bytes_of c.args.list.group in
    let start = start_seen c.args.arrival.start in
    let here = c.loop-entry.invariant in
    let front = c.refresh_front-taken in
    let seen = records_seen bytes_of front.new.records.items in
    let after : Follows c.args.arrival.port start known c.args.joins group front.new.records.capacity c.loop-entry.left (records_seen bytes_of c.loop-entry.records.items) front.new.entries seen =
    front_heard c.args.arrival.port start known c.args.joins group c.loop-entry.records.capacity front.new.records.capacity front.result c.loop-entry.left front.new.entries (records_seen bytes_of c.loop-entry.records.items) seen front.ensures.capacity front.ensures.entries (front.ensures.records known) here.ascending here.room in
    let none = no_event known c.args.joins group front.new.entries c.next.new.self (entry_seen bytes_of c.in-Some.entry) c.in-Some.ensures.steps c.in-None.ensures in
    record {
      ascending = after.0;
      room = subst (λ (es : List Event). HasRoom c.args.arrival.port start front.new.records.capacity es seen) none after.1;
      left = ap (λ (es : List Event). act_all c.args.arrival.port start es seen) (sym none) ∙ after.2 ∙ here.left;
      capacity = omega (arith, front.ensures.capacity, here.capacity);
    }

pub returns-in_default-clause-records : goal.returns-in_default-clause-records
returns-in_default-clause-records g c =
    let bytes_of = g.F.Family.bytes_of in
    let known = rp_of g.F.Family.family c.args.routes.now in
    let group = bytes_of c.args.list.group in
    let start = start_seen c.args.arrival.start in
    let here = c.loop-entry.invariant in
    let front = c.refresh_front-taken in
    let seen = records_seen bytes_of front.new.records.items in
    let after : Follows c.args.arrival.port start known c.args.joins group front.new.records.capacity c.loop-entry.left (records_seen bytes_of c.loop-entry.records.items) front.new.entries seen =
    front_heard c.args.arrival.port start known c.args.joins group c.loop-entry.records.capacity front.new.records.capacity front.result c.loop-entry.left front.new.entries (records_seen bytes_of c.loop-entry.records.items) seen front.ensures.capacity front.ensures.entries (front.ensures.records known) here.ascending here.room in
    sym (nothing_left c.args.arrival.port start known c.args.joins group front.new.entries seen c.in_default.ensures.steps.0) ∙ after.2 ∙ here.left
