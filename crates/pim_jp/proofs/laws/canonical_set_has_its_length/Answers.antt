use Rattle.pim_jp.proofs.Lengths.{set_size}
use Rattle.pim_jp.proofs.laws.canonical_set_has_its_length.Goals as goal

pub returns : goal.returns
returns c = set_size
