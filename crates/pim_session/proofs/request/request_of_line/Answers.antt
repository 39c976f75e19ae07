use Rattle.pim_session.proofs.Requests.{line_fits}
use Rattle.pim_session.proofs.request.request_of_line.Goals as goal

pub returns-in-Ok-clause-fit : goal.returns-in-Ok-clause-fit
returns-in-Ok-clause-fit c = line_fits c.args.line.now c.in-Ok.command c.requires c.in-Ok.ensures.states
