use Rattle.pim_addr.proofs.OneRow.{one_rp_for_all_groups}
use Rattle.pim_addr.proofs.laws.one_rp_for_all_groups.Goals as goal

pub returns : goal.returns
returns c = one_rp_for_all_groups
