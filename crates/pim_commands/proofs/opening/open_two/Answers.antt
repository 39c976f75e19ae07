use Rattle.pim_commands.proofs.opening.open_two.Goals as goal

pub returns-in-Err-clause-unopened : goal.returns-in-Err-clause-unopened
returns-in-Err-clause-unopened g c = record {
  reported = c.in-Err.reported;
  is = c.from.ensures;
  unopened = c.in-Err.ensures.unopened;
  requested = c.in-Err.ensures.requested;
}
