use Rattle.pim_warnings.proofs.Words.{◌≡◌, ◌≤◌, port_files, tallies_of, ports_of, warnings_from, warnings_text}
use Rattle.pim_warnings.proofs.Named.{left_from}
use Rattle.pim_warnings.proofs.Warned.{IsLeft}
use Rattle.pim_warnings.proofs.warnings.write_router.Given as goal

-- the warnings on the ports that are left are still to be written
abbrev pub invariant-loop-port : goal.invariant-loop-port
invariant-loop-port g l = record {
  below : l.number ≤ l.port-index;
  few : l.at ≤ l.port-index;
  left : IsLeft (g.W.Drain.contents l.fn.writer) (g.W.Drain.contents l.writer) (warnings_from g.F.Family.family l.routes l.is_whole l.number (left_from l.side l.further l.at l.port-index l.ports) (tallies_of l.merge.lanes))
      (warnings_text g.F.Family.family l.routes l.is_whole (ports_of l.side (port_files l.captures)) l.merge);
  count : g.W.Drain.failures l.writer ≡ g.W.Drain.failures l.fn.writer;
}
