use Rattle.pim_form.proofs.AskedGroups.{is_asked_form}
use Rattle.pim_form.proofs.toward_laws.form_of_demand_toward.Goals as goal

pub returns : goal.returns
returns c = λ family table neighbour state sound. is_asked_form c.keys_are_distinct.ensures family state sound table neighbour
