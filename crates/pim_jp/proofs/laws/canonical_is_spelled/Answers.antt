use Rattle.pim_jp.proofs.Canonical.{message_written}
use Rattle.pim_jp.proofs.laws.canonical_is_spelled.Goals as goal

pub returns : goal.returns
returns c = message_written
