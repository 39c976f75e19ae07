use Rattle.pim_change.proofs.Unchanged.{unchanged}
use Rattle.pim_change.proofs.laws.equal_forms_change_nothing.Goals as goal

pub returns : goal.returns
returns c = unchanged
