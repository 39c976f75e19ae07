use Rattle.pim_form.proofs.AskedGroups.{wanted_below}
use Rattle.pim_form.proofs.toward_laws.joined_star_wants_some_source.Goals as goal

pub returns : goal.returns
returns c = λ family state group sound some.
    let found = wanted_below c.keys_are_distinct.ensures family state sound group state.ports some in
    record { source = found.source; valid = found.valid; wanted = found.wanted }
