use Rattle.pim_down.proofs.Words.{ap, ◌∙◌, next_machine}
use Rattle.pim_down.proofs.ports.Ports.record_after_near.Goals as goal

pub returns : goal.returns
returns g c = c.next_machine.ensures.reported ∙ ap next_machine c.machines_after_near-left.ensures
