use Rattle.pim_trace.proofs.Words.{◌∙◌, ◌<◌, ◌-◌, [], ◌∷◌, length, refl, sym, ap, arith, no_neighbours, neighbour_seen}
use Rattle.pim_trace.proofs.Words.{timed_out, table_at, ledger_seen, time_outs_on}
use Rattle.pim_trace.proofs.Listed.{begin, same_left, all_told, part_told, part_begun, over_in, over_first, over_not, over_none, over_on, all_current, all_err}
use Rattle.pim_trace.proofs.passing.write_time_outs_on.Goals as goal

pub loop-known-init : goal.loop-known-init
loop-known-init g c =
    let ports = c.is_router.ensures.ports in
    let tables = c.is_router.ensures.tables in
    let less : c.args.port < length c.args.router.now.tables = omega (arith, c.requires.port, ports, tables) in
    record {
      way = same_left (g.T.EventWriter.line c.args.event_writer.now) (ledger_seen g.F.Family.bytes_of c.args.ledger.now) (time_outs_on c.args.port c.args.end (table_at c.args.port c.args.router.now)) (g.T.EventWriter.contents c.args.device.now) (ledger_seen g.F.Family.bytes_of c.args.ledger.now) (time_outs_on c.args.port c.args.end (table_at c.args.port c.args.router.now)) (g.T.EventWriter.contents c.args.device.now) (begin (g.T.EventWriter.line c.args.event_writer.now) (ledger_seen g.F.Family.bytes_of c.args.ledger.now) (time_outs_on c.args.port c.args.end (table_at c.args.port c.args.router.now)) (g.T.EventWriter.contents c.args.device.now)) (over_in c.args.port c.args.end (c.args.end - c.now.result) c.into_iter-known-iterator.result)
          (over_on c.args.port c.args.end c.args.router.now.machines.moment (c.args.end - c.now.result) (table_at c.args.port c.args.router.now)
          (all_current c.args.router.now.machines.moment c.args.router.now.tables c.args.port no_neighbours c.is_router.ensures.current less)
          (ap (λ m. c.args.end - m) c.now.ensures)
          ∙ ap (over_in c.args.port c.args.end (c.args.end - c.now.result)) (sym c.neighbours-known-items.ensures ∙ sym c.into_iter-known-iterator.ensures.into_iter_gives));
      failures = refl;
      frames = refl;
      own = refl;
    }

pub loop-known-preserved : goal.loop-known-preserved
loop-known-preserved g c = record {
  way = same_left (g.T.EventWriter.line c.args.event_writer.now) (ledger_seen g.F.Family.bytes_of c.args.ledger.now) (time_outs_on c.args.port c.args.end (table_at c.args.port c.args.router.now)) (g.T.EventWriter.contents c.args.device.now) (ledger_seen g.F.Family.bytes_of c.loop-known.ledger) (over_in c.args.port c.args.end (c.args.end - c.now.result) c.loop-known.known-iterator) (g.T.EventWriter.contents c.loop-known.device) c.loop-known.invariant.way (over_in c.args.port c.args.end (c.args.end - c.now.result) c.next.new.self)
      (ap (over_in c.args.port c.args.end (c.args.end - c.now.result)) c.in-Some.ensures.steps ∙ over_not c.args.port c.args.end (c.args.end - c.now.result) (neighbour_seen g.F.Family.bytes_of c.in-Some.known) c.next.new.self (sym (c.is_over_after.ensures g.F.Family.bytes_of) ∙ c.if-is_over_after.false));
  failures = c.loop-known.invariant.failures;
  frames = c.loop-known.invariant.frames;
  own = c.loop-known.invariant.own;
}

pub loop-known-preserved-in-Continue-1 : goal.loop-known-preserved-in-Continue-1
loop-known-preserved-in-Continue-1 g c = record {
  way = part_told (g.T.EventWriter.line c.args.event_writer.now) (ledger_seen g.F.Family.bytes_of c.args.ledger.now) (time_outs_on c.args.port c.args.end (table_at c.args.port c.args.router.now)) (g.T.EventWriter.contents c.args.device.now) (ledger_seen g.F.Family.bytes_of c.loop-known.ledger) (over_in c.args.port c.args.end (c.args.end - c.now.result) c.loop-known.known-iterator) (g.T.EventWriter.contents c.loop-known.device) c.loop-known.invariant.way
      ((c.args.end, timed_out c.args.port (g.F.Family.bytes_of c.in-Some.known.address)) ∷ []) (over_in c.args.port c.args.end (c.args.end - c.now.result) c.next.new.self)
      (ap (over_in c.args.port c.args.end (c.args.end - c.now.result)) c.in-Some.ensures.steps ∙ over_first c.args.port c.args.end (c.args.end - c.now.result) (neighbour_seen g.F.Family.bytes_of c.in-Some.known) c.next.new.self (sym (c.is_over_after.ensures g.F.Family.bytes_of) ∙ c.if-is_over_after.true))
      (ledger_seen g.F.Family.bytes_of c.write_time_out.new.ledger) (g.T.EventWriter.contents c.write_time_out.new.device) c.in_ok-write_time_out.ensures.reported;
  failures = c.in_ok-write_time_out.ensures.count ∙ c.loop-known.invariant.failures;
  frames = c.in_ok-write_time_out.ensures.frames ∙ c.loop-known.invariant.frames;
  own = c.in_ok-write_time_out.ensures.own ∙ c.loop-known.invariant.own;
}

pub returns-in_err-write_time_out-clause-reported : goal.returns-in_err-write_time_out-clause-reported
returns-in_err-write_time_out-clause-reported g c =
    all_err (g.T.EventWriter.line c.args.event_writer.now) (time_outs_on c.args.port c.args.end (table_at c.args.port c.args.router.now)) (ledger_seen g.F.Family.bytes_of c.args.ledger.now) _ (g.T.EventWriter.contents c.args.device.now) (g.T.EventWriter.contents c.write_time_out.new.device) c.from_residual.result c.from_residual.ensures.0
    (part_begun (g.T.EventWriter.line c.args.event_writer.now) (ledger_seen g.F.Family.bytes_of c.args.ledger.now) (time_outs_on c.args.port c.args.end (table_at c.args.port c.args.router.now)) (g.T.EventWriter.contents c.args.device.now) (ledger_seen g.F.Family.bytes_of c.loop-known.ledger) (over_in c.args.port c.args.end (c.args.end - c.now.result) c.loop-known.known-iterator) (g.T.EventWriter.contents c.loop-known.device) c.loop-known.invariant.way
    ((c.args.end, timed_out c.args.port (g.F.Family.bytes_of c.in-Some.known.address)) ∷ []) (over_in c.args.port c.args.end (c.args.end - c.now.result) c.next.new.self)
    (ap (over_in c.args.port c.args.end (c.args.end - c.now.result)) c.in-Some.ensures.steps ∙ over_first c.args.port c.args.end (c.args.end - c.now.result) (neighbour_seen g.F.Family.bytes_of c.in-Some.known) c.next.new.self (sym (c.is_over_after.ensures g.F.Family.bytes_of) ∙ c.if-is_over_after.true))
    (g.T.EventWriter.contents c.write_time_out.new.device) c.in_err-write_time_out.ensures.reported)

pub returns-clause-reported : goal.returns-clause-reported
returns-clause-reported g c =
    all_told (g.T.EventWriter.line c.args.event_writer.now) (ledger_seen g.F.Family.bytes_of c.args.ledger.now) (time_outs_on c.args.port c.args.end (table_at c.args.port c.args.router.now)) (g.T.EventWriter.contents c.args.device.now) (ledger_seen g.F.Family.bytes_of c.loop-known.ledger) (over_in c.args.port c.args.end (c.args.end - c.now.result) c.loop-known.known-iterator) (g.T.EventWriter.contents c.loop-known.device) c.loop-known.invariant.way
    (ap (over_in c.args.port c.args.end (c.args.end - c.now.result)) c.in-None.ensures.steps.0 ∙ over_none c.args.port c.args.end (c.args.end - c.now.result))
