use Rattle.pim_down.proofs.Words.{◌∙◌, sym, arith, entry_seen, list_events, rp_of, records_seen, event_seen}
use Rattle.pim_down.proofs.Events.{events_one, count_yes, count_no, count_none, list_bound}
use Rattle.pim_down.proofs.hearing.message.count_list.Goals as goal

pub overflow_add-count : goal.overflow_add-count
overflow_add-count g c =
    let bytes_of = g.F.Family.bytes_of in
    let known = rp_of g.F.Family.family c.args.routes.now in
    let group = bytes_of c.args.list.group in
    let event = event_seen bytes_of c.in-Some-event_of.event in
    let rest = c.next.new.self in
    let seen = records_seen bytes_of c.args.records.now.items in
    let split = events_one known c.args.joins group c.loop-entry.entry-iterator rest (entry_seen bytes_of c.in-Some.entry) event c.in-Some.ensures.steps c.in-Some-event_of.ensures in
    let one = count_yes c.args.port seen event (list_events known c.args.joins group c.loop-entry.entry-iterator) (list_events known c.args.joins group rest) split (sym c.is_new.ensures ∙ c.if-is_new.true) in
    let most = list_bound c.args.port seen known c.args.joins group c.args.list.entries in
    let so_far = c.loop-entry.invariant in
    omega (arith, c.count_left-most.ensures, c.count_left-most.type_inv)

pub loop-entry-preserved-then-is_new : goal.loop-entry-preserved-then-is_new
loop-entry-preserved-then-is_new g c =
    let bytes_of = g.F.Family.bytes_of in
    let known = rp_of g.F.Family.family c.args.routes.now in
    let group = bytes_of c.args.list.group in
    let event = event_seen bytes_of c.in-Some-event_of.event in
    let rest = c.next.new.self in
    let split = events_one known c.args.joins group c.loop-entry.entry-iterator rest (entry_seen bytes_of c.in-Some.entry) event c.in-Some.ensures.steps c.in-Some-event_of.ensures in
    let one = count_yes c.args.port (records_seen bytes_of c.args.records.now.items) event (list_events known c.args.joins group c.loop-entry.entry-iterator) (list_events known c.args.joins group rest) split (sym c.is_new.ensures ∙ c.if-is_new.true) in
    let so_far = c.loop-entry.invariant in
    omega arith

pub loop-entry-preserved-else-is_new : goal.loop-entry-preserved-else-is_new
loop-entry-preserved-else-is_new g c =
    let bytes_of = g.F.Family.bytes_of in
    let known = rp_of g.F.Family.family c.args.routes.now in
    let group = bytes_of c.args.list.group in
    let event = event_seen bytes_of c.in-Some-event_of.event in
    let rest = c.next.new.self in
    let split = events_one known c.args.joins group c.loop-entry.entry-iterator rest (entry_seen bytes_of c.in-Some.entry) event c.in-Some.ensures.steps c.in-Some-event_of.ensures in
    let none = count_no c.args.port (records_seen bytes_of c.args.records.now.items) event (list_events known c.args.joins group c.loop-entry.entry-iterator) (list_events known c.args.joins group rest) split (sym c.is_new.ensures ∙ c.if-is_new.false) in
    let so_far = c.loop-entry.invariant in
    omega arith

pub returns-clause-count : goal.returns-clause-count
returns-clause-count g c =
    let bytes_of = g.F.Family.bytes_of in
    let none = count_none c.args.port (rp_of g.F.Family.family c.args.routes.now) c.args.joins (bytes_of c.args.list.group) c.loop-entry.entry-iterator (records_seen bytes_of c.args.records.now.items) c.in-None.ensures.steps.0 in
    let so_far = c.loop-entry.invariant in
    omega arith

pub returns-clause-bound : goal.returns-clause-bound
returns-clause-bound g c =
    let bytes_of = g.F.Family.bytes_of in
    let known = rp_of g.F.Family.family c.args.routes.now in
    let none = count_none c.args.port known c.args.joins (bytes_of c.args.list.group) c.loop-entry.entry-iterator (records_seen bytes_of c.args.records.now.items) c.in-None.ensures.steps.0 in
    let most = list_bound c.args.port (records_seen bytes_of c.args.records.now.items) known c.args.joins (bytes_of c.args.list.group) c.args.list.entries in
    let so_far = c.loop-entry.invariant in
    omega (arith, c.count_left-most.ensures, c.count_left-most.type_inv)
