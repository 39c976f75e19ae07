use Rattle.pim_jp.proofs.Legal.{legal_body}
use Rattle.pim_jp.proofs.laws.legal_is_spelled.Goals as goal

pub returns : goal.returns
returns c = legal_body
