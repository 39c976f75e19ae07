use Rattle.pim_event_lines.proofs.Written.{both, stopped_first}
use Rattle.pim_event_lines.proofs.json_state.write_held_state.Goals as goal

pub returns-in_err-write_held_times-clause-bytes : goal.returns-in_err-write_held_times-clause-bytes
returns-in_err-write_held_times-clause-bytes g c = stopped_first _ _ c.from_residual.result _ _ c.from_residual.ensures.0 c.in_err-write_held_times.ensures.bytes

pub returns-clause-bytes : goal.returns-clause-bytes
returns-clause-bytes g c = both _ _ _ c.write_cause.result _ _ c.in_ok-write_held_times.ensures.bytes c.write_cause.ensures.bytes
