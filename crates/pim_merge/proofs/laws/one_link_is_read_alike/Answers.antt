use Rattle.pim_merge.proofs.OneLink.{read_alike}
use Rattle.pim_merge.proofs.laws.one_link_is_read_alike.Goals as goal

pub returns : goal.returns
returns c = read_alike c.classic_agrees_exactly.ensures
