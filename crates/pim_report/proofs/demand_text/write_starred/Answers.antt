use Rattle.pim_report.proofs.Written.{both, stopped_first}
use Rattle.pim_report.proofs.demand_text.write_starred.Goals as goal

pub returns-in_err-write_want_line-clause-bytes : goal.returns-in_err-write_want_line-clause-bytes
returns-in_err-write_want_line-clause-bytes g c = stopped_first _ _ c.from_residual.result _ _ c.from_residual.ensures.0 c.in_err-write_want_line.ensures.bytes

pub returns-clause-bytes : goal.returns-clause-bytes
returns-clause-bytes g c = both _ _ _ c.write_exceptions.result _ _ c.in_ok-write_want_line.ensures.bytes c.write_exceptions.ensures.bytes
