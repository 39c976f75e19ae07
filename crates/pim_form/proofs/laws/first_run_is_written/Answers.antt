use Rattle.pim_form.proofs.OnePacking.{first_run}
use Rattle.pim_form.proofs.laws.first_run_is_written.Goals as goal

pub returns : goal.returns
returns c = first_run
