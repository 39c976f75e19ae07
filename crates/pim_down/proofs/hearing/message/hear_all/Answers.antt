use Rattle.pim_down.proofs.Words.{◌≡◌, map, length, arith, length-map, events_of, rp_of, start_seen, records_seen, event_seen}
use Rattle.pim_down.proofs.Act.{IsAscending-act_all}
use Rattle.pim_down.proofs.Ending.{over_heard}
use Rattle.pim_down.proofs.Events.{room_for}
use Rattle.pim_down.proofs.hearing.message.hear_all.Goals as goal

pub hear_events-requires-clause-room : goal.hear_events-requires-clause-room
hear_events-requires-clause-room g c =
    let bytes_of = g.F.Family.bytes_of in
    let held = records_seen bytes_of c.args.records.now.items in
    let alike = rw c.in-Some.is at c.requires.alike in
    let count = (alike c.args.arrival.port held c.requires.ascending).1 in
    let long : length held ≡ length c.args.records.now.items = simp length-map in
    rw c.deref.ensures.value (room_for c.args.arrival.port (start_seen c.args.arrival.start) c.args.records.now.capacity (map (event_seen bytes_of) c.in-Some.events.items) held c.requires.ascending (omega (arith, c.requires.room, long, count)))

pub end_events-requires-clause-ascending : goal.end_events-requires-clause-ascending
end_events-requires-clause-ascending g c =
    rw c.hear_events.ensures (IsAscending-act_all c.args.arrival.port (start_seen c.args.arrival.start) _ (records_seen g.F.Family.bytes_of c.args.records.now.items) c.requires.ascending)

pub end_events-requires-clause-groups : goal.end_events-requires-clause-groups
end_events-requires-clause-groups g c =
    let bytes_of = g.F.Family.bytes_of in
    rw (c.hear_events.ensures, c.deref.ensures.value, c.deref-in-Some.ensures.value) (over_heard c.args.arrival.port (start_seen c.args.arrival.start) (map (event_seen bytes_of) c.in-Some.events.items) (records_seen bytes_of c.args.records.now.items) c.requires.settled)

pub hear_sets-requires-clause-room : goal.hear_sets-requires-clause-room
hear_sets-requires-clause-room g c =
    let held = records_seen g.F.Family.bytes_of c.args.records.now.items in
    let long : length held ≡ length c.args.records.now.items = simp length-map in
    room_for c.args.arrival.port (start_seen c.args.arrival.start) c.args.records.now.capacity (events_of (rp_of g.F.Family.family c.args.routes.now) c.args.message.now) held c.requires.ascending (omega (arith, c.requires.room, long))

pub end_sets-requires-clause-ascending : goal.end_sets-requires-clause-ascending
end_sets-requires-clause-ascending g c =
    rw c.hear_sets.ensures (IsAscending-act_all c.args.arrival.port (start_seen c.args.arrival.start) _ (records_seen g.F.Family.bytes_of c.args.records.now.items) c.requires.ascending)

pub end_sets-requires-clause-groups : goal.end_sets-requires-clause-groups
end_sets-requires-clause-groups g c =
    rw c.hear_sets.ensures (over_heard c.args.arrival.port (start_seen c.args.arrival.start) _ (records_seen g.F.Family.bytes_of c.args.records.now.items) c.requires.settled)
