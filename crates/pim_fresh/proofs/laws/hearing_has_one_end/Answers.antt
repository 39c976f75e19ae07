use Rattle.pim_fresh.proofs.OneEnd.{one_end}
use Rattle.pim_fresh.proofs.laws.hearing_has_one_end.Goals as goal

pub returns : goal.returns
returns c = one_end c.run_has_one_end.ensures
