use Rattle.pim_event_lines.proofs.Written.{both, stopped_first}
use Rattle.pim_event_lines.proofs.text_packets.write_restart_line.Goals as goal

pub returns-in_err-write_frame-clause-bytes : goal.returns-in_err-write_frame-clause-bytes
returns-in_err-write_frame-clause-bytes g c = stopped_first _ _ c.from_residual.result _ _ c.from_residual.ensures.0 c.in_err-write_frame.ensures.bytes

pub returns-clause-bytes : goal.returns-clause-bytes
returns-clause-bytes g c = both _ _ _ c.write_own_restart.result _ _ c.in_ok-write_frame.ensures.bytes c.write_own_restart.ensures.bytes
