use Rattle.pim_replay.proofs.Words.{turn_seen, PassesTime, taking, TakesRecord, WritesTurn, refl}
use Rattle.pim_replay.proofs.Told.{both, begun_longer, happens_then, begun_then}
use Rattle.pim_replay.proofs.turns.ReplayHooksCounts.take.Goals as goal

-- the time that passed, and then the record
pub returns-in_default-clause-taken : goal.returns-in_default-clause-taken
returns-in_default-clause-taken g c =
    let turn = turn_seen c.args.bytes.now c.args.turn.now in
    let way = c.in_default.ensures.reported in
    let taken = taking g.F.Family.family turn.capture turn.reported way.after in
    begun_longer (g.L.Listener.line c.args.self.now.listener.now) (PassesTime turn.moment c.args.router.now) (WritesTurn g.F.Family.family turn c.args.router.now)
    (g.L.Listener.contents c.args.device.now) (g.L.Listener.contents c.pass_time.new.device) way taken.0 taken.1
    (both (PassesTime turn.moment c.args.router.now) (TakesRecord g.F.Family.family turn) way.account taken.0 way.after taken.1 way.wrote refl)

pub returns-in-Ok-take_record-clause-taken : goal.returns-in-Ok-take_record-clause-taken
returns-in-Ok-take_record-clause-taken g c =
    let turn = turn_seen c.args.bytes.now c.args.turn.now in
    happens_then (g.L.Listener.line c.args.self.now.listener.now) (PassesTime turn.moment c.args.router.now) (TakesRecord g.F.Family.family turn) c.pass_time.new.router
    (g.L.Listener.contents c.args.device.now) (g.L.Listener.contents c.pass_time.new.device) (g.L.Listener.contents c.take_record.new.device) c.args.counts.now c.in-Ok.passed c.in-Ok.ensures.reported
    c.take_record.new.router c.in-Ok-take_record.more c.in-Ok-take_record.ensures.reported

pub returns-in-Err-clause-taken : goal.returns-in-Err-clause-taken
returns-in-Err-clause-taken g c =
    let turn = turn_seen c.args.bytes.now c.args.turn.now in
    begun_then (g.L.Listener.line c.args.self.now.listener.now) (PassesTime turn.moment c.args.router.now) (TakesRecord g.F.Family.family turn) c.pass_time.new.router
    (g.L.Listener.contents c.args.device.now) (g.L.Listener.contents c.pass_time.new.device) (g.L.Listener.contents c.take_record.new.device) c.args.counts.now c.in-Ok.passed c.in-Ok.ensures.reported
    c.in-Err.ensures.reported
