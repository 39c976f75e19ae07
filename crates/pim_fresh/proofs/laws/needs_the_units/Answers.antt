use Rattle.pim_fresh.proofs.Hearings.{Machines}
use Rattle.pim_fresh.proofs.Counts.{needs_the_units}
use Rattle.pim_fresh.proofs.laws.needs_the_units.Goals as goal

pub returns : goal.returns
returns c =
    let laws : Machines = record {
      keys = c.keys_are_distinct.ensures;
      order = c.hearing_keeps_the_order.ensures;
      hears = c.hearing_acts_at_each_key.ensures;
      run_order = c.run_keeps_the_order.ensures;
      bounds = c.run_keeps_its_bounds.ensures;
      silence = c.silence_acts_at_each_key.ensures;
    } in
    needs_the_units laws
