use Rattle.pim_fresh.proofs.ItsMessage.{its_message}
use Rattle.pim_fresh.proofs.laws.span_is_of_its_message.Goals as goal

pub returns : goal.returns
returns c = its_message
