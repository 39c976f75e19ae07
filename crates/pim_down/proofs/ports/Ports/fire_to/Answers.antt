use Rattle.pim_down.proofs.Words.{option_map, firing_seen, records_seen, downstream_at}
use Rattle.pim_down.proofs.Kept.{ascending_back}
use Rattle.pim_down.proofs.Stops.{sound_fires}
use Rattle.pim_down.proofs.ports.Ports.fire_to.Goals as goal

pub run_to_firing-halt-requires-clause-ascending : goal.run_to_firing-halt-requires-clause-ascending
run_to_firing-halt-requires-clause-ascending g c =
    let p = c.self.inside in
    ascending_back p.moment (records_seen g.F.Family.bytes_of p.records.items) c.self.invariant.0.ascending

pub invariant_of-self : goal.invariant_of-self
invariant_of-self g c =
    let p = c.self.inside in
    let bytes_of = g.F.Family.bytes_of in
    (sound_fires g.F.Family.family c.args.moment (downstream_at bytes_of p.ports p.limit p.moment p.records.items) (downstream_at bytes_of p.ports p.limit c.run_to_firing-halt.result.now c.run_to_firing-halt.new.records.items) (option_map (firing_seen bytes_of) c.run_to_firing-halt.result.fired) c.requires c.self.invariant.0 (c.run_to_firing-halt.ensures.fires p.ports p.limit), c.run_to_firing-halt.ensures.late)
