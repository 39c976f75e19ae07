use Rattle.std.proofs.Common.{◌∙◌, arith, length-append}
use Rattle.pim_device.proofs.Moved.{Consumes-step}
use Rattle.pim_device.proofs.device.read_up_to.Goals as goal

pub loop-got-preserved : goal.loop-got-preserved
loop-got-preserved g c = record {
  within = omega (arith, length-append c.split_at_mut-rest.result.0.now c.read.new.buffer, c.in_ok-more.ensures.bound, c.split_at_mut-rest.ensures.front_len);
  consumed = Consumes-step _ _ _ _ _ _ _ _ c.split_at_mut-rest.ensures.front c.split_at_mut-rest.ensures.front_len c.loop-got.invariant.consumed c.in_ok-more.ensures.bytes.0;
  unfailed = c.in_ok-more.ensures.count ∙ c.loop-got.invariant.unfailed;
}
