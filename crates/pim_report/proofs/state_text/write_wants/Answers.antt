use Rattle.pim_report.proofs.Written.{both, stopped_first}
use Rattle.pim_report.proofs.state_text.write_wants.Goals as goal

pub returns-in_err-write_demand-clause-bytes : goal.returns-in_err-write_demand-clause-bytes
returns-in_err-write_demand-clause-bytes g c = stopped_first _ _ c.from_residual.result _ _ c.from_residual.ensures.0 c.in_err-write_demand.ensures.bytes

pub returns-clause-bytes : goal.returns-clause-bytes
returns-clause-bytes g c = both _ _ _ c.write_counts.result _ _ c.in_ok-write_demand.ensures.bytes c.write_counts.ensures.bytes
