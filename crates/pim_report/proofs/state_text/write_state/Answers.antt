use Rattle.pim_report.proofs.Words.{subst, Downstream, IsFormOf}
use Rattle.pim_form.specs.Wants.{wants}
use Rattle.pim_report.proofs.state_text.write_state.Goals as goal

-- the text of the form that was made
pub returns-in_default-write_with-clause-text : goal.returns-in_default-write_with-clause-text
returns-in_default-write_with-clause-text g c = record {
  form = c.in-Ok.form;
  demand = subst (λ (m : Downstream). IsFormOf g.F.Family.family (wants m) c.in-Ok.form) c.ports.ensures c.in-Ok.ensures;
  written = c.in_default-write_with.ensures.bytes;
}

pub returns-clause-text : goal.returns-clause-text
returns-clause-text g c = record {
  form = c.in-Ok.form;
  demand = subst (λ (m : Downstream). IsFormOf g.F.Family.family (wants m) c.in-Ok.form) c.ports.ensures c.in-Ok.ensures;
  written = c.in-Ok-write_with.ensures.bytes;
}
