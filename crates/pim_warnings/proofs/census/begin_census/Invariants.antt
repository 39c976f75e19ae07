use Rattle.pim_warnings.proofs.Words.{◌≡◌, ◌≤◌, length, port_files, ports_of, begun_from}
use Rattle.pim_warnings.proofs.Named.{left_from}
use Rattle.pim_warnings.proofs.census.begin_census.Given as goal

-- those that are left still begin
abbrev pub invariant-loop-port : goal.invariant-loop-port
invariant-loop-port g l = record {
  below : l.number ≤ l.port-index;
  left : begun_from g.F.Family.family g.F.Family.bytes_of l.number (left_from l.side l.captures.more.items l.port-index l.port-index l.ports) l.merge.lanes
      ≡ begun_from g.F.Family.family g.F.Family.bytes_of 0 (ports_of l.side (port_files l.captures)) l.fn.merge.lanes;
  clock : l.merge.clock ≡ l.fn.merge.clock;
  each : length l.merge.lanes ≡ length l.fn.merge.lanes;
}
