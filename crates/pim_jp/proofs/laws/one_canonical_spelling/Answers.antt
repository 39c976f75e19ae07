use Rattle.pim_jp.proofs.PlainSpelling.{one_spelling}
use Rattle.pim_jp.proofs.laws.one_canonical_spelling.Goals as goal

pub returns : goal.returns
returns c = one_spelling
