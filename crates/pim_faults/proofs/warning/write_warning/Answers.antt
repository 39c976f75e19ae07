use Rattle.pim_faults.proofs.warning.write_warning.Goals as goal

pub returns-in-Fragments-clause-bytes : goal.returns-in-Fragments-clause-bytes
returns-in-Fragments-clause-bytes g c = rw c.in-Fragments.is c.write_count-in-Fragments.ensures.bytes

pub returns-in-RunsBack-clause-bytes : goal.returns-in-RunsBack-clause-bytes
returns-in-RunsBack-clause-bytes g c = rw c.in-RunsBack.is c.write_about-in-RunsBack.ensures.bytes
