use Rattle.pim_jp.proofs.Lengths.{message_size}
use Rattle.pim_jp.proofs.laws.canonical_has_its_length.Goals as goal

pub returns : goal.returns
returns c = message_size
