use Rattle.pim_jp.specs.Message.{message_of}
use Rattle.pim_text.proofs.WholeFronts.{spelled_is_whole}
use Rattle.pim_text.proofs.laws.whole_body_is_its_message.Goals as goal

pub returns : goal.returns
returns c = λ family body bytes none. spelled_is_whole family (message_of family body) body (c.legal_is_spelled.ensures family body bytes none)
