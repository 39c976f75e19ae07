use Rattle.pim_change.proofs.OneList.{one_list_of_change}
use Rattle.pim_change.proofs.laws.one_list_of_change.Goals as goal

pub returns : goal.returns
returns c = one_list_of_change c.one_checksum.ensures c.one_packing.ensures
