use Rattle.pim_frame.proofs.Sums.{folded_alike}
use Rattle.pim_frame.proofs.checksum.add_bytes.Goals as goal

pub returns : goal.returns
returns c = rw (c.fold.ensures, c.from.ensures) (folded_alike c.args.start _ _ c.wide_sum.ensures.sum)
