use Rattle.pim_form.proofs.demand.+form_from.Given as goal

abbrev pub decreases-form_from : goal.decreases-form_from
decreases-form_from g l = l.count
