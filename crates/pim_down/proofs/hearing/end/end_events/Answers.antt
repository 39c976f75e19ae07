use Rattle.pim_down.proofs.Words.{◌≡◌, ◌+◌, not, Some, sym, subst, ◌∙◌, arith, filter, is_over_in, records_seen, event_seen}
use Rattle.pim_down.proofs.Ending.{others_star, still_other, ends_group, ends_skip, ends_message, ended_group}
use Rattle.pim_down.proofs.Listing.{seen_from, event_left, no_event_left}
use Rattle.pim_down.proofs.hearing.end.end_events.Goals.{then-is_star_join, else-is_star_join}
use Rattle.pim_down.proofs.hearing.end.end_events.Goals as goal

one_of : {A : Type 0} {a b : A} → Some a ≡ Some b → a ≡ b
one_of e = cc

pub loop-event-preserved : goal.loop-event-preserved
loop-event-preserved g c =
    let bytes_of = g.F.Family.bytes_of in
    let port = c.args.port in
    let events = c.args.events.now in
    let i = c.loop-event.event-index in
    let event = c.event-item.result in
    let all = seen_from bytes_of i events in
    let rest = seen_from bytes_of (i + 1) events in
    let old = records_seen bytes_of c.args.records.now.items in
    let now = records_seen bytes_of c.loop-event.records.items in
    let split = event_left bytes_of events i event c.loop-event-test.true c.event-item.is in
    elim c.if-is_star_join.branch [
      | then-is_star_join w ↦
          let new = records_seen bytes_of w.end_next.new.records.items in
          let star = sym (c.is_star_join.ensures bytes_of) ∙ w.if-is_star_join.true in
          record {
            ends = rw w.records-is (ends_group port old now new all rest (bytes_of event.group) (others_star (event_seen bytes_of event) all rest split star) w.end_next.ensures c.loop-event.invariant.ends);
            ended = λ other is. rw w.records-is (subst (λ (group : g.row.F-Addr.Denot). new ≡ filter (λ held. not (is_over_in port (bytes_of group) held)) new) (one_of (sym w.last-is ∙ is)) (ended_group port now new (bytes_of event.group) w.end_next.ensures));
          }
      | else-is_star_join w ↦
          let star = sym (c.is_star_join.ensures bytes_of) ∙ w.if-is_star_join.false in
          record {
            ends = rw w.records-is (ends_skip port old now all rest (still_other (event_seen bytes_of event) all rest split star) c.loop-event.invariant.ends);
            ended = λ other is. rw w.records-is (c.loop-event.invariant.ended other (sym w.last-is ∙ is));
          }
    ]

pub returns : goal.returns
returns g c =
    let bytes_of = g.F.Family.bytes_of in
    let rest = seen_from bytes_of c.loop-event.event-index c.args.events.now in
    ends_message c.args.port (records_seen bytes_of c.args.records.now.items) (records_seen bytes_of c.loop-event.records.items) rest (no_event_left bytes_of c.args.events.now c.loop-event.event-index (omega (arith, c.loop-event-test.false))) c.loop-event.invariant.ends
