use Rattle.pim_files.proofs.NoEnd.{unopened_never_ends}
use Rattle.pim_files.proofs.laws.unopened_file_is_a_fault.Goals as goal

pub returns-clause-never_ends : goal.returns-clause-never_ends
returns-clause-never_ends c = unopened_never_ends
