use Rattle.std.proofs.Common.{◌∙◌, arith}
use Rattle.pim_emit.proofs.Gone.{one_write_more}
use Rattle.pim_emit.proofs.sending.send.Goals as goal

pub loop-taken-preserved : goal.loop-taken-preserved
loop-taken-preserved g c = record {
  within = omega (arith, c.in_ok-more.ensures.bound);
  counted = omega (arith, c.loop-taken.invariant.counted);
  gone = one_write_more _ _ _ _ _ _ _ c.split_at.ensures.back c.loop-taken.invariant.gone c.in_ok-more.ensures.bytes;
  failures = c.in_ok-more.ensures.count ∙ c.loop-taken.invariant.failures;
}
