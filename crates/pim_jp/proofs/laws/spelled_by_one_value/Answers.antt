use Rattle.pim_jp.proofs.Spelled.{one_value}
use Rattle.pim_jp.proofs.laws.spelled_by_one_value.Goals as goal

pub returns : goal.returns
returns c = one_value
