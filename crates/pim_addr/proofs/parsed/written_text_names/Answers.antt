use Rattle.pim_addr.proofs.TextNames.{text_written}
use Rattle.pim_addr.proofs.parsed.written_text_names.Goals as goal

pub returns : goal.returns
returns c = λ family address is_address. text_written family address is_address.0 is_address.1
