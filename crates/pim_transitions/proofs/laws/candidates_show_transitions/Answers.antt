use Rattle.pim_transitions.proofs.Telling.{candidates_tell}
use Rattle.pim_transitions.proofs.laws.candidates_show_transitions.Goals as goal

pub returns : goal.returns
returns c = candidates_tell c.keys_are_distinct.ensures c.hearing_acts_at_each_key.ensures
