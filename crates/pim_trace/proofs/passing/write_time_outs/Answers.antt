use Rattle.pim_trace.proofs.Words.{◌∙◌, ◌<◌, ◌≤◌, ◌+◌, length, refl, arith, table_at, ledger_seen, time_outs, time_outs_on}
use Rattle.pim_trace.proofs.Listed.{begin, same_left, all_told, part_told, part_begun, over_from, from_first, from_next, from_none, all_err}
use Rattle.pim_trace.proofs.passing.write_time_outs.Goals as goal

pub loop-port-init : goal.loop-port-init
loop-port-init g c = record {
  way = same_left (g.T.EventWriter.line c.args.event_writer.now) (ledger_seen g.F.Family.bytes_of c.args.ledger.now) (time_outs c.args.end c.args.router.now.tables) (g.T.EventWriter.contents c.args.device.now) (ledger_seen g.F.Family.bytes_of c.args.ledger.now) (time_outs c.args.end c.args.router.now.tables) (g.T.EventWriter.contents c.args.device.now) (begin (g.T.EventWriter.line c.args.event_writer.now) (ledger_seen g.F.Family.bytes_of c.args.ledger.now) (time_outs c.args.end c.args.router.now.tables) (g.T.EventWriter.contents c.args.device.now)) (over_from c.args.end c.args.router.now.tables 0) (from_first c.args.end c.args.router.now.tables);
  failures = refl;
  frames = refl;
  own = refl;
}

pub loop-port-preserved : goal.loop-port-preserved
loop-port-preserved g c =
    let ports = c.is_router.ensures.ports in
    let tables = c.is_router.ensures.tables in
    let less : c.loop-port.port < length c.args.router.now.tables = omega (arith, c.loop-port-test.true, c.port_count-port-end.ensures, ports, tables) in
    record {
      way = part_told (g.T.EventWriter.line c.args.event_writer.now) (ledger_seen g.F.Family.bytes_of c.args.ledger.now) (time_outs c.args.end c.args.router.now.tables) (g.T.EventWriter.contents c.args.device.now) (ledger_seen g.F.Family.bytes_of c.loop-port.ledger) (over_from c.args.end c.args.router.now.tables c.loop-port.port) (g.T.EventWriter.contents c.loop-port.device) c.loop-port.invariant.way
          (time_outs_on c.loop-port.port c.args.end (table_at c.loop-port.port c.args.router.now)) (over_from c.args.end c.args.router.now.tables (c.loop-port.port + 1)) (from_next c.args.end c.args.router.now.tables c.loop-port.port less)
          (ledger_seen g.F.Family.bytes_of c.write_time_outs_on.new.ledger) (g.T.EventWriter.contents c.write_time_outs_on.new.device) c.in_ok-write_time_outs_on.ensures.reported;
      failures = c.in_ok-write_time_outs_on.ensures.count ∙ c.loop-port.invariant.failures;
      frames = c.in_ok-write_time_outs_on.ensures.frames ∙ c.loop-port.invariant.frames;
      own = c.in_ok-write_time_outs_on.ensures.own ∙ c.loop-port.invariant.own;
    }

pub returns-in_err-write_time_outs_on-clause-reported : goal.returns-in_err-write_time_outs_on-clause-reported
returns-in_err-write_time_outs_on-clause-reported g c =
    let ports = c.is_router.ensures.ports in
    let tables = c.is_router.ensures.tables in
    let less : c.loop-port.port < length c.args.router.now.tables = omega (arith, c.loop-port-test.true, c.port_count-port-end.ensures, ports, tables) in
    all_err (g.T.EventWriter.line c.args.event_writer.now) (time_outs c.args.end c.args.router.now.tables) (ledger_seen g.F.Family.bytes_of c.args.ledger.now) _ (g.T.EventWriter.contents c.args.device.now) (g.T.EventWriter.contents c.write_time_outs_on.new.device) c.from_residual.result c.from_residual.ensures.0
    (part_begun (g.T.EventWriter.line c.args.event_writer.now) (ledger_seen g.F.Family.bytes_of c.args.ledger.now) (time_outs c.args.end c.args.router.now.tables) (g.T.EventWriter.contents c.args.device.now) (ledger_seen g.F.Family.bytes_of c.loop-port.ledger) (over_from c.args.end c.args.router.now.tables c.loop-port.port) (g.T.EventWriter.contents c.loop-port.device) c.loop-port.invariant.way
    (time_outs_on c.loop-port.port c.args.end (table_at c.loop-port.port c.args.router.now)) (over_from c.args.end c.args.router.now.tables (c.loop-port.port + 1)) (from_next c.args.end c.args.router.now.tables c.loop-port.port less)
    (g.T.EventWriter.contents c.write_time_outs_on.new.device) c.in_err-write_time_outs_on.ensures.reported)

pub returns-clause-reported : goal.returns-clause-reported
returns-clause-reported g c =
    let ports = c.is_router.ensures.ports in
    let tables = c.is_router.ensures.tables in
    let past : length c.args.router.now.tables ≤ c.loop-port.port = omega (arith, c.loop-port-test.false, c.port_count-port-end.ensures, ports, tables) in
    all_told (g.T.EventWriter.line c.args.event_writer.now) (ledger_seen g.F.Family.bytes_of c.args.ledger.now) (time_outs c.args.end c.args.router.now.tables) (g.T.EventWriter.contents c.args.device.now) (ledger_seen g.F.Family.bytes_of c.loop-port.ledger) (over_from c.args.end c.args.router.now.tables c.loop-port.port) (g.T.EventWriter.contents c.loop-port.device) c.loop-port.invariant.way (from_none c.args.end c.args.router.now.tables c.loop-port.port past)
