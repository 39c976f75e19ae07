use Rattle.pim_audit_lines.proofs.Written.{both, stopped_first}
use Rattle.pim_audit_lines.proofs.text_lines.write_gone.Goals as goal

pub returns-in_err-write_origin-clause-bytes : goal.returns-in_err-write_origin-clause-bytes
returns-in_err-write_origin-clause-bytes g c = stopped_first _ _ c.from_residual.result _ _ c.from_residual.ensures.0 c.in_err-write_origin.ensures.bytes

pub returns-clause-bytes : goal.returns-clause-bytes
returns-clause-bytes g c = both _ _ _ c.write_all.result _ _ c.in_ok-write_origin.ensures.bytes c.write_all.ensures.bytes
