use Rattle.std.proofs.Common.{ap}
use Rattle.pim_audit.specs.Seen.{due_seen, dues_seen}
use Rattle.pim_audit.specs.Touched.{machines_seen}
use Rattle.pim_audit.proofs.Watching.{due_next, due_all}
use Rattle.pim_audit.proofs.watched.add_due.Goals as goal

pub loop-held-preserved : goal.loop-held-preserved
loop-held-preserved g c =
    let bytes_of = g.F.Family.bytes_of in
    record {
      but = due_next (due_seen bytes_of c.in-Some.held.now) (dues_seen bytes_of c.loop-held.held-iterator)
          (dues_seen bytes_of c.next.new.self) c.args.dues.now (machines_seen bytes_of c.loop-held.machines.keys)
          (machines_seen bytes_of c.add.new.machines.keys) (ap (dues_seen bytes_of) c.in-Some.ensures.steps)
          c.loop-held.invariant.but c.in_ok-add.ensures.has c.in_ok-add.ensures.grows;
      grows = λ group what was. c.in_ok-add.ensures.grows group what (c.loop-held.invariant.grows group what was);
    }

pub returns-clause-has : goal.returns-clause-has
returns-clause-has g c =
    let bytes_of = g.F.Family.bytes_of in
    due_all (dues_seen bytes_of c.loop-held.held-iterator) c.args.dues.now (machines_seen bytes_of c.loop-held.machines.keys)
    (ap (dues_seen bytes_of) c.in-None.ensures.steps.0) c.loop-held.invariant.but
