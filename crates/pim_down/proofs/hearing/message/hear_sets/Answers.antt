use Rattle.pim_down.proofs.Words.{◌∙◌, true, false, refl, sym, ap, list_events, act_all, rp_of, start_seen, records_seen}
use Rattle.pim_down.proofs.Act.{IsAscending-act_all}
use Rattle.pim_down.proofs.Events.{sets_events, set_room, set_left, no_set_left, room_grows}
use Rattle.pim_down.proofs.hearing.message.hear_sets.Goals as goal

pub loop-set-init : goal.loop-set-init
loop-set-init g c =
    let items = c.into_iter-set-iterator.ensures.into_iter_gives ∙ c.sets-set-items.ensures in
    record {
      ascending = c.requires.ascending;
      room = rw items c.requires.room;
      left = rw items refl;
    }

pub hear_list-requires-clause-room : goal.hear_list-requires-clause-room
hear_list-requires-clause-room g c =
    let space = set_room c.args.arrival.port (start_seen c.args.arrival.start) c.loop-set.records.capacity (rp_of g.F.Family.family c.args.routes.now) c.in-Some.set c.loop-set.set-iterator c.next.new.self (records_seen g.F.Family.bytes_of c.loop-set.records.items) c.in-Some.ensures.steps c.loop-set.invariant.room in
    rw (c.group-group.ensures, c.joined-entries.ensures) space.0

pub hear_list-requires-in-loop-set-clause-ascending : goal.hear_list-requires-in-loop-set-clause-ascending
hear_list-requires-in-loop-set-clause-ascending g c =
    rw c.hear_list.ensures.records (IsAscending-act_all c.args.arrival.port (start_seen c.args.arrival.start) _ (records_seen g.F.Family.bytes_of c.loop-set.records.items) c.loop-set.invariant.ascending)

pub hear_list-requires-in-loop-set-clause-room : goal.hear_list-requires-in-loop-set-clause-room
hear_list-requires-in-loop-set-clause-room g c =
    let known = rp_of g.F.Family.family c.args.routes.now in
    let set = c.in-Some.set in
    let seen = records_seen g.F.Family.bytes_of c.loop-set.records.items in
    let space = set_room c.args.arrival.port (start_seen c.args.arrival.start) c.loop-set.records.capacity known set c.loop-set.set-iterator c.next.new.self seen c.in-Some.ensures.steps c.loop-set.invariant.room in
    let joined = rw (c.group-group.ensures, c.joined-entries.ensures) at c.hear_list.ensures.records in
    let grown = room_grows c.args.arrival.port (start_seen c.args.arrival.start) c.loop-set.records.capacity c.hear_list.new.records.capacity (list_events known false set.group set.pruned) (act_all c.args.arrival.port (start_seen c.args.arrival.start) (list_events known true set.group set.joined) seen) c.hear_list.ensures.capacity space.1 in
    rw (joined, c.group-group.ensures, c.pruned-entries.ensures) grown

pub loop-set-preserved : goal.loop-set-preserved
loop-set-preserved g c =
    let known = rp_of g.F.Family.family c.args.routes.now in
    let set = c.in-Some.set in
    let rest = sets_events known c.next.new.self in
    let seen = records_seen g.F.Family.bytes_of c.loop-set.records.items in
    let joins = list_events known true set.group set.joined in
    let prunes = list_events known false set.group set.pruned in
    let space = set_room c.args.arrival.port (start_seen c.args.arrival.start) c.loop-set.records.capacity known set c.loop-set.set-iterator c.next.new.self seen c.in-Some.ensures.steps c.loop-set.invariant.room in
    let joined = rw (c.group-group.ensures, c.joined-entries.ensures) at c.hear_list.ensures.records in
    let pruned = rw (joined, c.group-group.ensures, c.pruned-entries.ensures) at c.hear_list-in-loop-set.ensures.records in
    let middle = act_all c.args.arrival.port (start_seen c.args.arrival.start) joins seen in
    let after = act_all c.args.arrival.port (start_seen c.args.arrival.start) prunes middle in
    let grown = room_grows c.args.arrival.port (start_seen c.args.arrival.start) c.loop-set.records.capacity c.hear_list.new.records.capacity rest after c.hear_list.ensures.capacity space.2 in
    let more = room_grows c.args.arrival.port (start_seen c.args.arrival.start) c.hear_list.new.records.capacity c.hear_list-in-loop-set.new.records.capacity rest after c.hear_list-in-loop-set.ensures.capacity grown in
    let ascending = IsAscending-act_all c.args.arrival.port (start_seen c.args.arrival.start) joins seen c.loop-set.invariant.ascending in
    record {
      ascending = rw pruned (IsAscending-act_all c.args.arrival.port (start_seen c.args.arrival.start) prunes middle ascending);
      room = rw pruned more;
      left = ap (act_all c.args.arrival.port (start_seen c.args.arrival.start) rest) pruned ∙ sym (set_left c.args.arrival.port (start_seen c.args.arrival.start) known set c.loop-set.set-iterator c.next.new.self seen c.in-Some.ensures.steps) ∙ c.loop-set.invariant.left;
    }

pub returns : goal.returns
returns g c =
    sym (no_set_left c.args.arrival.port (start_seen c.args.arrival.start) (rp_of g.F.Family.family c.args.routes.now) c.loop-set.set-iterator (records_seen g.F.Family.bytes_of c.loop-set.records.items) c.in-None.ensures.steps.0) ∙ c.loop-set.invariant.left
