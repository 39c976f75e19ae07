use Rattle.pim_event_lines.proofs.Written.{both, stopped_first}
use Rattle.pim_event_lines.proofs.json_state.write_record_json.Goals as goal

pub returns-in_err-write_machine-clause-bytes : goal.returns-in_err-write_machine-clause-bytes
returns-in_err-write_machine-clause-bytes g c = stopped_first _ _ c.from_residual.result _ _ c.from_residual.ensures.0 c.in_err-write_machine.ensures.bytes

pub returns-clause-bytes : goal.returns-clause-bytes
returns-clause-bytes g c = both _ _ _ c.write_held_state.result _ _ c.in_ok-write_machine.ensures.bytes c.write_held_state.ensures.bytes
