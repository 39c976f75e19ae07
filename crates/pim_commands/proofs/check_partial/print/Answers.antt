use Rattle.pim_commands.proofs.check_partial.print.Goals as goal

pub returns-clause-report : goal.returns-clause-report
returns-clause-report g c = λ report given. c.end_with.ensures.report report (rw c.in-Err.is at given)

pub returns-clause-input_read : goal.returns-clause-input_read
returns-clause-input_read g c = λ report given. c.end_with.ensures.input_read report (rw c.in-Err.is at given)

pub returns-clause-output : goal.returns-clause-output
returns-clause-output g c = λ report given. c.end_with.ensures.output report (rw c.in-Err.is at given)
