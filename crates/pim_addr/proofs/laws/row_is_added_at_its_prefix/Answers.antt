use Rattle.pim_addr.proofs.AnyOrder.{row_is_added_at_its_prefix}
use Rattle.pim_addr.proofs.laws.row_is_added_at_its_prefix.Goals as goal

pub returns : goal.returns
returns c = row_is_added_at_its_prefix
