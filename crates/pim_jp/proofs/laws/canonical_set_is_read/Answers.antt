use Rattle.pim_jp.proofs.Canonical.{set_read}
use Rattle.pim_jp.proofs.laws.canonical_set_is_read.Goals as goal

pub returns : goal.returns
returns c = set_read
