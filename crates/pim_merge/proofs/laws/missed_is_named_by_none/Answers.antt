use Rattle.pim_merge.proofs.Counted.{missed}
use Rattle.pim_merge.proofs.laws.missed_is_named_by_none.Goals as goal

pub returns : goal.returns
returns c = missed
