use Rattle.pim_form.proofs.Units.{count_groups}
use Rattle.pim_form.proofs.laws.groups_are_counted.Goals as goal

pub returns : goal.returns
returns c = count_groups
