use Rattle.pim_merge.proofs.OneEnd.{one_end_by}
use Rattle.pim_merge.proofs.laws.merge_by_has_one_end.Goals as goal

pub returns : goal.returns
returns c = one_end_by
