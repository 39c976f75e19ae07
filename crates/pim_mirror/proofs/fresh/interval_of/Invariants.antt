use Rattle.pim_mirror.proofs.Words.{◌≡◌, ◌≤◌, drop, jp_override_interval, fresh_seen, interval_of}
use Rattle.pim_mirror.proofs.Intervals.{hellos_of}
use Rattle.pim_mirror.proofs.fresh.interval_of.Given as goal

-- the greatest so far and those that are left give the interval of all; each is a number of 16 bits
abbrev pub invariant-loop-other : goal.invariant-loop-other
invariant-loop-other g l = record {
  interval :
      jp_override_interval l.propagation l.override_ms (hellos_of g.F.Family.bytes_of (drop l.other-index l.fresh.others.now))
      ≡ interval_of (fresh_seen g.F.Family.bytes_of l.fresh);
  propagation : l.propagation ≤ 65535;
  override_ms : l.override_ms ≤ 65535;
}
