use Rattle.pim_merge.proofs.Counted.{unserved}
use Rattle.pim_merge.proofs.laws.unserved_is_joined.Goals as goal

pub returns : goal.returns
returns c = unserved c.legal_is_spelled.ensures c.spelled_is_message.ensures
