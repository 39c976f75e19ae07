use Rattle.pim_jp.proofs.Spelled.{spelled_body}
use Rattle.pim_jp.proofs.laws.spelled_is_legal.Goals as goal

pub returns : goal.returns
returns c = spelled_body
