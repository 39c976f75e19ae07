use Rattle.pim_event_lines.proofs.Written.{both, stopped_first}
use Rattle.pim_event_lines.proofs.text_packets.write_greeting.Goals as goal

pub returns-in_err-write_sender-clause-bytes : goal.returns-in_err-write_sender-clause-bytes
returns-in_err-write_sender-clause-bytes g c = stopped_first _ _ c.from_residual.result _ _ c.from_residual.ensures.0 c.in_err-write_sender.ensures.bytes

pub returns-clause-bytes : goal.returns-clause-bytes
returns-clause-bytes g c = rw (← c.heard_words.ensures) (both _ _ _ c.write_all.result _ _ c.in_ok-write_sender.ensures.bytes c.write_all.ensures.bytes)
