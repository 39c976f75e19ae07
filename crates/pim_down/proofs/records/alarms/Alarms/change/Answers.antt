use Rattle.pim_down.specs.Seen.{key_seen}
use Rattle.pim_down.proofs.AlarmOrder.{known_rest}
use Rattle.pim_down.proofs.records.alarms.Alarms.change.Goals as goal

pub returns-then-ne-clause-alarms : goal.returns-then-ne-clause-alarms
returns-then-ne-clause-alarms g c timers known kept =
    let bytes_of = g.O.KeyOrder.bytes_of in
    c.start.ensures.alarms timers (known_rest bytes_of c.args.slab.now (key_seen bytes_of c.args.key) c.args.number c.args.from timers known) (c.stop.ensures.alarms timers known kept)
