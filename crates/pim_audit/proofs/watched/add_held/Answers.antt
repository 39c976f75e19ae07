use Rattle.pim_down.specs.Seen.{record_of_seen}
use Rattle.pim_audit.specs.Touched.{machines_seen}
use Rattle.pim_audit.proofs.Watching.{held_next, held_all}
use Rattle.pim_audit.proofs.watched.add_held.Goals as goal

pub loop-held-preserved : goal.loop-held-preserved
loop-held-preserved g c =
    let bytes_of = g.F.Family.bytes_of in
    record {
      but = held_next (record_of_seen bytes_of c.in-Some.held) c.loop-held.held-iterator c.next.new.self
          c.args.ports.now.records (machines_seen bytes_of c.loop-held.machines.keys)
          (machines_seen bytes_of c.add.new.machines.keys)
          c.in-Some.ensures.steps c.loop-held.invariant.but c.in_ok-add.ensures.has c.in_ok-add.ensures.grows;
      grows = λ group what was. c.in_ok-add.ensures.grows group what (c.loop-held.invariant.grows group what was);
    }

pub returns-clause-has : goal.returns-clause-has
returns-clause-has g c =
    held_all c.loop-held.held-iterator c.args.ports.now.records
    (machines_seen g.F.Family.bytes_of c.loop-held.machines.keys) c.in-None.ensures.steps.0 c.loop-held.invariant.but
