use Rattle.pim_down.proofs.Words.{◌≡◌, ◌∷◌, ◌+◌, ap, ◌∙◌, map, arith, entry_of_what, entry_of_event, what_seen, event_seen, records_seen}
use Rattle.pim_down.proofs.Listing.{seen_from, event_left, no_event_left}
use Rattle.pim_down.proofs.Stays.{pruned_rpt, pruned_other, no_named_prune, named_end}
use Rattle.pim_down.proofs.hearing.listed.join_entries.Goals.{in-Rpt, in-Star}
use Rattle.pim_down.proofs.hearing.listed.join_entries.Goals as goal

pub loop-event-preserved : goal.loop-event-preserved
loop-event-preserved g c =
    let bytes_of = g.F.Family.bytes_of in
    let port = c.args.port in
    let group = bytes_of c.args.group in
    let named = c.args.named.now in
    let i = c.loop-event.event-index in
    let event = c.event-item.result in
    let all = map entry_of_event (map (event_seen bytes_of) named) in
    let left = map entry_of_event (seen_from bytes_of i named) in
    let rest = map entry_of_event (seen_from bytes_of (i + 1) named) in
    let old = records_seen bytes_of c.args.records.now.items in
    let now = records_seen bytes_of c.loop-event.records.items in
    let split : left ≡ entry_of_event (event_seen bytes_of event) ∷ rest = ap (map entry_of_event) (event_left bytes_of named i event c.loop-event-test.true c.event-item.is) in
    elim c.match-event.branch [
      | in-Rpt w ↦ record {
        joins = pruned_rpt port group all left rest old now (records_seen bytes_of c.match-event.records.items) (bytes_of w.in-Rpt.source)
            (split ∙ ap (λ what. entry_of_what (what_seen bytes_of what) ∷ rest) w.in-Rpt.is)
            (ap (λ list. records_seen bytes_of list.items) w.records-is ∙ w.join_rpt.ensures.records) c.loop-event.invariant.joins;
        capacity = ap (λ list. list.capacity) w.records-is ∙ w.join_rpt.ensures.capacity ∙ c.loop-event.invariant.capacity;
      }
      | in-Star w ↦ rw w.records-is (record {
        joins = pruned_other port group all left rest old now (entry_of_event (event_seen bytes_of event)) split (no_named_prune port group bytes_of event.what w.in-Star.is) c.loop-event.invariant.joins;
        capacity = c.loop-event.invariant.capacity;
      })
    ]

pub returns-clause-records : goal.returns-clause-records
returns-clause-records g c =
    let bytes_of = g.F.Family.bytes_of in
    let named = c.args.named.now in
    named_end c.args.port (bytes_of c.args.group) (map entry_of_event (map (event_seen bytes_of) named)) (map entry_of_event (seen_from bytes_of c.loop-event.event-index named))
    (records_seen bytes_of c.args.records.now.items) (records_seen bytes_of c.loop-event.records.items)
    (ap (map entry_of_event) (no_event_left bytes_of named c.loop-event.event-index (omega (arith, c.loop-event-test.false)))) c.loop-event.invariant.joins c.requires.stay
