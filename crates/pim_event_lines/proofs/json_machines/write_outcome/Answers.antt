use Rattle.pim_event_lines.proofs.Written.{both, stopped_first}
use Rattle.pim_event_lines.proofs.json_machines.write_outcome.Goals as goal

pub returns-in_err-write_timers-clause-bytes : goal.returns-in_err-write_timers-clause-bytes
returns-in_err-write_timers-clause-bytes g c = stopped_first _ _ c.from_residual.result _ _ c.from_residual.ensures.0 c.in_err-write_timers.ensures.bytes

pub returns-clause-bytes : goal.returns-clause-bytes
returns-clause-bytes g c = both _ _ _ c.write_overrides.result _ _ c.in_ok-write_timers.ensures.bytes c.write_overrides.ensures.bytes
