use Rattle.pim_moving.proofs.Moving.{Machines, moves}
use Rattle.pim_moving.proofs.laws.change_moves_a_router.Goals as goal

pub returns : goal.returns
returns c =
    let laws : Machines = record {
      keys = c.keys_are_distinct.ensures;
      acts = c.hearing_acts_at_each_key.ensures;
      hears_order = c.hearing_keeps_the_order.ensures;
      bounds = c.run_keeps_its_bounds.ensures;
      runs_order = c.run_keeps_the_order.ensures;
      heard = c.read_packet_is_heard.ensures;
      runs = c.router_runs_as_its_machines.ensures;
      stays = c.writer_stays_heard.ensures;
    } in
    moves laws c.test_finds_the_neighbour.ensures c.change_is_read.ensures c.written_change_settles.ensures c.settled_wants.ensures
