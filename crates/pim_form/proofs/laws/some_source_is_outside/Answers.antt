use Rattle.pim_form.proofs.Counting.{outside}
use Rattle.pim_form.proofs.laws.some_source_is_outside.Goals as goal

pub returns : goal.returns
returns c = outside
