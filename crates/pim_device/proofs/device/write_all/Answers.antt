use Rattle.std.proofs.Common.{◌∙◌, arith}
use Rattle.pim_device.proofs.Moved.{Appends-step}
use Rattle.pim_device.proofs.device.write_all.Goals as goal

pub loop-taken-preserved : goal.loop-taken-preserved
loop-taken-preserved g c = record {
  within = omega (arith, c.in_ok-more.ensures.bound);
  appended = Appends-step _ _ _ _ _ _ _ c.split_at.ensures.back c.loop-taken.invariant.appended c.in_ok-more.ensures.bytes;
  unfailed = c.in_ok-more.ensures.count ∙ c.loop-taken.invariant.unfailed;
}
