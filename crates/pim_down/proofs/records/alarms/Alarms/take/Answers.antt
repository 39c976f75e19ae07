use Rattle.pim_down.proofs.Words.{◌≤◌, length, ap, sym, subst, arith, ◌∙◌, length-remove, items, before, AlarmList, alarm_seen}
use Rattle.pim_down.proofs.AlarmOrder.{taken, not_there}
use Rattle.pim_down.proofs.records.alarms.Alarms.take.Goals as goal

pub returns-in-Ok-clause-alarms : goal.returns-in-Ok-clause-alarms
returns-in-Ok-clause-alarms g c timers known kept =
    let list = c.self.inside.list in
    let bytes_of = g.O.KeyOrder.bytes_of in
    c.remove.ensures.items
    ∙ taken bytes_of c.args.slab.now (alarm_seen bytes_of c.args.key c.args.alarm) timers known (items list) (ap (λ (l : AlarmList). l.alarms) c.self.view_is ∙ kept) (before list c.in-Ok.place) (c.in-Ok.ensures {u = tt}).1

pub returns-in-Ok-clause-fewer : goal.returns-in-Ok-clause-fewer
returns-in-Ok-clause-fewer g c =
    let list = c.self.inside.list in
    subst (λ (l : AlarmList). length (items c.remove.new.self) ≤ length l.alarms) c.self.view_is
    (omega (arith, ap length c.remove.ensures.items, length-remove (items list) (before list c.in-Ok.place) (c.in-Ok.ensures {u = tt}).1.within))

pub returns-in_default-clause-alarms : goal.returns-in_default-clause-alarms
returns-in_default-clause-alarms g c timers known kept =
    let list = c.self.inside.list in
    let bytes_of = g.O.KeyOrder.bytes_of in
    let found = c.in_default.ensures {u = tt} in
    let place = c.in_default.field-0 in
    let own = ap (λ (l : AlarmList). l.alarms) c.self.view_is in
    sym own
    ∙ not_there bytes_of c.args.slab.now (alarm_seen bytes_of c.args.key c.args.alarm) timers known (items list) (own ∙ kept) (before list place) (c.place_is_within.ensures list place found.0) found.1
