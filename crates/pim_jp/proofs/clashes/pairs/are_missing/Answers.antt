use Rattle.std.proofs.Common.{arith}
use Rattle.pim_jp.proofs.clashes.pairs.are_missing.Goals as goal

pub loop-pair-init : goal.loop-pair-init
loop-pair-init g c = record {
  missing = λ index other below. absurd (omega (arith, below));
}
