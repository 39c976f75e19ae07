use Rattle.pim_trace.proofs.Words.{◌≡◌, ledger_seen, time_outs}
use Rattle.pim_trace.proofs.Listed.{IsTelling, over_from}
use Rattle.pim_trace.proofs.passing.write_time_outs.Given as goal

-- the ports so far were told
abbrev pub invariant-loop-port : goal.invariant-loop-port
invariant-loop-port g l = record {
  way : IsTelling (g.T.EventWriter.line l.fn.event_writer) (ledger_seen g.F.Family.bytes_of l.fn.ledger) (time_outs l.fn.end l.fn.router.tables)
      (g.T.EventWriter.contents l.fn.device) (ledger_seen g.F.Family.bytes_of l.ledger) (over_from l.fn.end l.fn.router.tables l.port) (g.T.EventWriter.contents l.device);
  failures : g.T.EventWriter.failures l.device ≡ g.T.EventWriter.failures l.fn.device;
  frames : l.ledger.frames.items ≡ l.fn.ledger.frames.items;
  own : l.ledger.own.items ≡ l.fn.ledger.own.items;
}
