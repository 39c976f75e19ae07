use Rattle.pim_down.proofs.Words.{step_seen, records_seen, downstream_at}
use Rattle.pim_down.proofs.Firings.{runs_looking}
use Rattle.pim_down.proofs.Kept.{ascending_back, sound_runs}
use Rattle.pim_down.proofs.ports.Ports.run_counted.Goals as goal

pub run-stop-requires-clause-ascending : goal.run-stop-requires-clause-ascending
run-stop-requires-clause-ascending g c =
    let p = c.self.inside in
    ascending_back p.moment (records_seen g.F.Family.bytes_of p.records.items) c.self.invariant.0.ascending

pub invariant_of-self : goal.invariant_of-self
invariant_of-self g c =
    let p = c.self.inside in
    (sound_runs g.F.Family.family c.args.moment (downstream_at g.F.Family.bytes_of p.ports p.limit p.moment p.records.items) (downstream_at g.F.Family.bytes_of p.ports p.limit c.run-stop.result.now c.run-stop.new.records.items) (step_seen g.F.Family.bytes_of c.run-stop.result.step) c.requires c.self.invariant.0 (runs_looking c.args.moment (downstream_at g.F.Family.bytes_of p.ports p.limit p.moment p.records.items) (downstream_at g.F.Family.bytes_of p.ports p.limit c.run-stop.result.now c.run-stop.new.records.items) (step_seen g.F.Family.bytes_of c.run-stop.result.step) c.run-stop.result.looks (c.run-stop.ensures.runs p.ports p.limit)), c.run-stop.ensures.late)
