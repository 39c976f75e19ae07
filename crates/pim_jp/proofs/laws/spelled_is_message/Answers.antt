use Rattle.pim_jp.proofs.Canonical.{message_in_range}
use Rattle.pim_jp.proofs.laws.spelled_is_message.Goals as goal

pub returns : goal.returns
returns c = message_in_range
