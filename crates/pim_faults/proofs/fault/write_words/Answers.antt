use Rattle.pim_faults.proofs.fault.write_words.Goals as goal

pub returns-in-InputTooLong-clause-bytes : goal.returns-in-InputTooLong-clause-bytes
returns-in-InputTooLong-clause-bytes g c = rw c.in-InputTooLong.is c.write_plain-in-InputTooLong.ensures.bytes
