use Rattle.pim_jp.proofs.Canonical.{head_read}
use Rattle.pim_jp.proofs.laws.canonical_head_is_read.Goals as goal

pub returns : goal.returns
returns c = head_read
