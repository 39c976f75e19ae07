use Rattle.std.proofs.Common.{nat_eq, ap, ◌∙◌}
use Rattle.pim_frame.proofs.Sums.{folded-right}
use Rattle.pim_frame.proofs.checksum.sums_rightly.Goals as goal

pub returns : goal.returns
returns g c = ap (λ n. nat_eq n 65535) c.folded_sum.ensures.sum ∙ folded-right _
