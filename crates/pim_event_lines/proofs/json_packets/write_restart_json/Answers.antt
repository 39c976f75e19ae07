use Rattle.pim_event_lines.proofs.Written.{both, stopped_first}
use Rattle.pim_event_lines.proofs.json_packets.write_restart_json.Goals as goal

pub returns-in_err-write_restart-clause-bytes : goal.returns-in_err-write_restart-clause-bytes
returns-in_err-write_restart-clause-bytes g c = stopped_first _ _ c.from_residual.result _ _ c.from_residual.ensures.0 c.in_err-write_restart.ensures.bytes

pub returns-clause-bytes : goal.returns-clause-bytes
returns-clause-bytes g c = both _ _ _ c.write_generations.result _ _ c.in_ok-write_restart.ensures.bytes c.write_generations.ensures.bytes
