use Rattle.pim_faults.proofs.fault.put_capture.Goals as goal

pub returns-in-LinkNumber-clause-bytes : goal.returns-in-LinkNumber-clause-bytes
returns-in-LinkNumber-clause-bytes g c = rw (c.in-LinkNumber.is, ← c.from.ensures) c.put_number.ensures.bytes

pub returns-in-Block-clause-bytes : goal.returns-in-Block-clause-bytes
returns-in-Block-clause-bytes g c = rw c.in-Block.is c.write_all-in-Block.ensures.bytes

pub returns-in-Time-clause-bytes : goal.returns-in-Time-clause-bytes
returns-in-Time-clause-bytes g c = rw c.in-Time.is c.write_all-in-Time.ensures.bytes
