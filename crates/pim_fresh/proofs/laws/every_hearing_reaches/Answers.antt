use Rattle.pim_fresh.proofs.Hearings.{Machines}
use Rattle.pim_fresh.proofs.Echoes.{every_hearing}
use Rattle.pim_fresh.proofs.laws.every_hearing_reaches.Goals as goal

pub returns : goal.returns
returns c =
    let laws : Machines = record {
      keys = c.keys_are_distinct.ensures;
      order = c.hearing_keeps_the_order.ensures;
      hears = c.hearing_acts_at_each_key.ensures;
      run_order = c.run_keeps_the_order.ensures;
      bounds = c.run_keeps_its_bounds.ensures;
      silence = c.silence_acts_at_each_key.ensures;
    } in
    every_hearing laws c.echo_names_a_machine.ensures c.every_state_has_a_run.ensures
