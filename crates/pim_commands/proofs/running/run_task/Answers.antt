use Rattle.pim_commands.proofs.running.run_task.Goals as goal

pub returns-in-Trace-clause-done : goal.returns-in-Trace-clause-done
returns-in-Trace-clause-done g c = rw c.in-Trace.is c.trace.ensures.events

pub returns-in-Audit-clause-done : goal.returns-in-Audit-clause-done
returns-in-Audit-clause-done g c = rw c.in-Audit.is c.audit.ensures.lines

pub returns-in-Same-clause-done : goal.returns-in-Same-clause-done
returns-in-Same-clause-done g c = rw c.in-Same.is c.same.ensures.report

pub returns-in-Mirror-clause-done : goal.returns-in-Mirror-clause-done
returns-in-Mirror-clause-done g c = rw c.in-Mirror.is c.mirror.ensures.text

pub returns-in-Emit-clause-done : goal.returns-in-Emit-clause-done
returns-in-Emit-clause-done g c = rw c.in-Emit.is c.emit.ensures.bytes

pub returns-in-Change-clause-done : goal.returns-in-Change-clause-done
returns-in-Change-clause-done g c = rw c.in-Change.is c.change.ensures.text
