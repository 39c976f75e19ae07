use Rattle.pim_form.proofs.OneForm.{one_form}
use Rattle.pim_form.proofs.laws.one_normal_form.Goals as goal

pub returns : goal.returns
returns c = one_form
