use Rattle.pim_moving.proofs.Moving.{Machines, long_timers}
use Rattle.pim_moving.proofs.laws.long_timers_last.Goals as goal

pub returns : goal.returns
returns c =
    let laws : Machines = record {
      keys = c.keys_are_distinct.ensures;
      acts = c.hearing_acts_at_each_key.ensures;
      hears_order = c.hearing_keeps_the_order.ensures;
      bounds = c.run_keeps_its_bounds.ensures;
      runs_order = c.run_keeps_the_order.ensures;
      heard = c.read_packet_is_heard.ensures;
      runs = c.router_runs_as_its_machines.ensures;
      stays = c.writer_stays_heard.ensures;
    } in
    long_timers laws c.change_is_read.ensures
