use Rattle.pim_trace.proofs.Words.{◌≡◌, table_at, ledger_seen, time_outs_on}
use Rattle.pim_trace.proofs.Listed.{IsTelling, over_in}
use Rattle.pim_trace.proofs.passing.write_time_outs_on.Given as goal

-- the neighbours so far were told
abbrev pub invariant-loop-known : goal.invariant-loop-known
invariant-loop-known g l = record {
  way : IsTelling (g.T.EventWriter.line l.fn.event_writer) (ledger_seen g.F.Family.bytes_of l.fn.ledger) (time_outs_on l.fn.port l.fn.end (table_at l.fn.port l.fn.router))
      (g.T.EventWriter.contents l.fn.device) (ledger_seen g.F.Family.bytes_of l.ledger) (over_in l.fn.port l.fn.end l.passed l.known-iterator) (g.T.EventWriter.contents l.device);
  failures : g.T.EventWriter.failures l.device ≡ g.T.EventWriter.failures l.fn.device;
  frames : l.ledger.frames.items ≡ l.fn.ledger.frames.items;
  own : l.ledger.own.items ≡ l.fn.ledger.own.items;
}
