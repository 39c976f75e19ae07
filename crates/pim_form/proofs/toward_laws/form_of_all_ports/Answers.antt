use Rattle.pim_form.proofs.AskedGroups.{below_form}
use Rattle.pim_form.proofs.toward_laws.form_of_all_ports.Goals as goal

pub returns : goal.returns
returns c = λ family state sound. below_form c.keys_are_distinct.ensures family state sound state.ports
