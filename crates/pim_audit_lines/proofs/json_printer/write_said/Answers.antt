use Rattle.pim_audit_lines.proofs.json_printer.write_said.Goals as goal

pub returns-in-Late-clause-bytes : goal.returns-in-Late-clause-bytes
returns-in-Late-clause-bytes g c = rw c.in-Late.is c.write_timed.ensures.bytes

pub returns-in-Dropped-clause-bytes : goal.returns-in-Dropped-clause-bytes
returns-in-Dropped-clause-bytes g c = rw c.in-Dropped.is c.write_timed-in-Dropped.ensures.bytes
