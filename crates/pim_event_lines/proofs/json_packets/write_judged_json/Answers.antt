use Rattle.pim_event_lines.proofs.Written.{both, stopped_first}
use Rattle.pim_event_lines.proofs.json_packets.write_judged_json.Goals as goal

pub returns-in_err-write_verdict-clause-bytes : goal.returns-in_err-write_verdict-clause-bytes
returns-in_err-write_verdict-clause-bytes g c = stopped_first _ _ c.from_residual.result _ _ c.from_residual.ensures.0 c.in_err-write_verdict.ensures.bytes

pub returns-clause-bytes : goal.returns-clause-bytes
returns-clause-bytes g c = both _ _ _ c.write_message.result _ _ c.in_ok-write_verdict.ensures.bytes c.write_message.ensures.bytes
