use Rattle.std.proofs.Common.{length, refl}
use Rattle.pim_jp.proofs.Guesses.{starts_within}
use Rattle.pim_jp.proofs.clashes.pairs.guess_both.Goals as goal

pub loop-done-init : goal.loop-done-init
loop-done-init g c = record {
  one = rw c.from.ensures (starts_within (length c.args.sorted.now) c.ilog2-shift.result _ c.is_lt.result c.ilog2-shift.ensures.bound c.ilog2-shift.ensures.power_le refl);
  other = rw c.from-2.ensures (starts_within (length c.args.sorted.now) c.ilog2-shift.result _ c.is_lt-2.result c.ilog2-shift.ensures.bound c.ilog2-shift.ensures.power_le refl);
}
