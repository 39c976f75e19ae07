use Rattle.std.proofs.Common.{◌≡◌, ◌-◌, ◌≤◌, length, take}
use Rattle.std.specs.Io.KnownBytes.{Appends}
use Rattle.pim_device.proofs.device.write_all.Given as goal

abbrev pub invariant-loop-taken : goal.invariant-loop-taken
invariant-loop-taken g l = record {
  within : l.taken ≤ length l.bytes;
  appended : Appends (g.D.Drain.contents l.initial.drain) (g.D.Drain.contents l.drain) (take l.taken l.bytes);
  unfailed : g.D.Drain.failures l.drain ≡ g.D.Drain.failures l.initial.drain;
}

abbrev pub decreases-loop-taken : goal.decreases-loop-taken
decreases-loop-taken g l = length l.bytes - l.taken
