use Rattle.pim_event_lines.proofs.Written.{both, stopped_first}
use Rattle.pim_event_lines.proofs.text_machines.write_pending.Goals as goal

pub returns-in_err-write_waiting-clause-bytes : goal.returns-in_err-write_waiting-clause-bytes
returns-in_err-write_waiting-clause-bytes g c = stopped_first _ _ c.from_residual.result _ _ c.from_residual.ensures.0 c.in_err-write_waiting.ensures.bytes

pub returns-clause-bytes : goal.returns-clause-bytes
returns-clause-bytes g c = both _ _ _ c.write_overrides.result _ _ c.in_ok-write_waiting.ensures.bytes c.write_overrides.ensures.bytes
