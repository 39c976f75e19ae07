use Rattle.pim_down.specs.Seen.{key_seen}
use Rattle.pim_down.proofs.AlarmOrder.{stopped}
use Rattle.pim_down.proofs.records.alarms.Alarms.stop.Goals as goal

pub returns-in-Some-clause-alarms : goal.returns-in-Some-clause-alarms
returns-in-Some-clause-alarms g c timers known kept =
    stopped g.O.KeyOrder.bytes_of c.args.slab.now (key_seen g.O.KeyOrder.bytes_of c.args.key) c.args.number c.in-Some.ends_at c.args.end timers c.args.self.now.alarms c.take.new.self.alarms c.in-Some.is c.take.ensures.alarms known kept
