use Rattle.pim_down.proofs.Words.{map, rp_of, event_seen}
use Rattle.pim_down.proofs.Events.{sets_events}
use Rattle.pim_down.proofs.Listing.{set_more}
use Rattle.pim_down.proofs.hearing.ordered.events_of.Goals as goal

pub loop-set-preserved : goal.loop-set-preserved
loop-set-preserved g c =
    let bytes_of = g.F.Family.bytes_of in
    let known = rp_of g.F.Family.family c.args.routes.now in
    set_more known c.in-Some.set c.loop-set.set-iterator c.next.new.self (map (event_seen bytes_of) c.loop-set.events.items) (map (event_seen bytes_of) c.push_list.new.events.items) (map (event_seen bytes_of) c.push_list-in-loop-set.new.events.items) (sets_events known c.args.message.now.sets)
    c.in-Some.ensures.steps (rw (c.group-group.ensures, c.joined.ensures) at c.in_ok-push_list.ensures) (rw (c.group-group.ensures, c.pruned.ensures) at c.in_ok-push_list-2.ensures) c.loop-set.invariant
