use Rattle.pim_addr.proofs.TextNames.{one_address}
use Rattle.pim_addr.proofs.parsed.text_names_one_address.Goals as goal

pub returns : goal.returns
returns c = one_address
