use Rattle.pim_answers.proofs.OneAnswer.{one_packet, one_from}
use Rattle.pim_answers.proofs.laws.packet_has_one_answer.Goals as goal

pub returns-clause-packet : goal.returns-clause-packet
returns-clause-packet c = one_packet

pub returns-clause-text : goal.returns-clause-text
returns-clause-text c = one_from c.text_has_one_body.ensures.body c.text_has_one_body.ensures.long c.one_checksum.ensures
