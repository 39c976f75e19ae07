use Rattle.pim_merge.proofs.Alike.{merges_alike}
use Rattle.pim_merge.proofs.laws.merges_are_alike.Goals as goal

pub returns : goal.returns
returns c = merges_alike
