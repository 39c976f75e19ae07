use Rattle.pim_event_lines.proofs.Written.{both, stopped_first}
use Rattle.pim_event_lines.proofs.json_packets.write_hello_json.Goals as goal

pub returns-in_err-write_named-clause-bytes : goal.returns-in_err-write_named-clause-bytes
returns-in_err-write_named-clause-bytes g c = stopped_first _ _ c.from_residual.result _ _ c.from_residual.ensures.0 c.in_err-write_named.ensures.bytes

pub returns-clause-bytes : goal.returns-clause-bytes
returns-clause-bytes g c = both _ _ _ c.write_meaning.result _ _ c.in_ok-write_named.ensures.bytes c.write_meaning.ensures.bytes
