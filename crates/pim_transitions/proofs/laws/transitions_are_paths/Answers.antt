use Rattle.pim_transitions.proofs.laws.transitions_are_paths.Goals as goal

pub returns : goal.returns
returns c = λ port start events records key ascending. c.hearing_acts_at_each_key.ensures port start events records ascending key
