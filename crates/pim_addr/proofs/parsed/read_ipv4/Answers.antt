use Rattle.pim_addr.proofs.TextNames.{unread_names_none_ipv4}
use Rattle.pim_addr.proofs.parsed.read_ipv4.Goals as goal

pub returns-in-Err-clause-no_text : goal.returns-in-Err-clause-no_text
returns-in-Err-clause-no_text c = unread_names_none_ipv4 c.args.text.now c.in-Err.ensures.value
