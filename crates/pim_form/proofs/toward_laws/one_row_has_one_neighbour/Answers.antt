use Rattle.pim_form.proofs.OneRow.{asks_for_all}
use Rattle.pim_form.proofs.toward_laws.one_row_has_one_neighbour.Goals as goal

pub returns : goal.returns
returns c = λ family table neighbour state sound vias have.
    asks_for_all family table neighbour state sound (λ address is. c.one_neighbour_for_all.ensures family neighbour address table is vias) have
