use Rattle.pim_text.proofs.Words.{subst, Parameters, ParametersFit, hello_seen}
use Rattle.pim_text.proofs.hello_law.hello_text_states_it.Goals as goal

pub returns : goal.returns
returns g c =
    c.hello_text_states.ensures g.F.Family.family (hello_seen g.F.Family.family c.args.hello.now)
    (subst (λ (p : Parameters). ParametersFit p) c.parameters.ensures c.parameters_fit.ensures) c.addresses_are_of_the_family.ensures
