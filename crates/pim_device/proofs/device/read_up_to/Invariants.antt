use Rattle.std.proofs.Common.{◌≡◌, ◌-◌, ◌≤◌, length, take}
use Rattle.std.specs.Io.KnownBytes.{Consumes}
use Rattle.pim_device.proofs.device.read_up_to.Given as goal

abbrev pub invariant-loop-got : goal.invariant-loop-got
invariant-loop-got g l = record {
  within : l.got ≤ length l.buffer;
  consumed : Consumes (g.R.Feed.remaining l.initial.feed) (g.R.Feed.remaining l.feed) (take l.got l.buffer);
  unfailed : g.R.Feed.failures l.feed ≡ g.R.Feed.failures l.initial.feed;
}

abbrev pub decreases-loop-got : goal.decreases-loop-got
decreases-loop-got g l = length l.initial.buffer - l.got
