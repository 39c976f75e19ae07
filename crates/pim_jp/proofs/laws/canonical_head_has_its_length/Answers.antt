use Rattle.pim_jp.proofs.Lengths.{head_size}
use Rattle.pim_jp.proofs.laws.canonical_head_has_its_length.Goals as goal

pub returns : goal.returns
returns c = head_size
