use Rattle.pim_event_lines.proofs.Written.{both, stopped_first}
use Rattle.pim_event_lines.proofs.text_machines.write_timers.Goals as goal

pub returns-in_err-write_expiry-clause-bytes : goal.returns-in_err-write_expiry-clause-bytes
returns-in_err-write_expiry-clause-bytes g c = stopped_first _ _ c.from_residual.result _ _ c.from_residual.ensures.0 c.in_err-write_expiry.ensures.bytes

pub returns-clause-bytes : goal.returns-clause-bytes
returns-clause-bytes g c =
    rw (← c.pending_in-pending.ensures) (both _ _ _ c.write_pending.result _ _ c.in_ok-write_expiry.ensures.bytes c.write_pending.ensures.bytes)
