use Rattle.pim_settling.proofs.Runs.{runs_carry_the_change}
use Rattle.pim_settling.proofs.laws.runs_carry_the_change.Goals as goal

pub returns : goal.returns
returns c = runs_carry_the_change c.keys_are_distinct.ensures
