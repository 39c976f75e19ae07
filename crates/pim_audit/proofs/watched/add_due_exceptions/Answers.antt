use Rattle.std.proofs.Common.{◌∙◌, ap}
use Rattle.std.specs.Map.{values_of}
use Rattle.pim_audit.specs.Seen.{due_seen, dues_seen}
use Rattle.pim_audit.specs.Touched.{machines_seen}
use Rattle.pim_audit.proofs.Watching.{exceptions_kept, exception_next, exceptions_all}
use Rattle.pim_audit.proofs.watched.add_due_exceptions.Goals as goal

pub loop-held-init : goal.loop-held-init
loop-held-init g c =
    let bytes_of = g.F.Family.bytes_of in
    record {
      but = exceptions_kept (bytes_of c.args.group) c.args.dues.now (dues_seen bytes_of (values_of c.into_iter-held-iterator.result))
          (machines_seen bytes_of c.args.machines.now.keys)
          (ap (λ held. dues_seen bytes_of (values_of held)) c.into_iter-held-iterator.ensures.into_iter_gives
          ∙ c.exceptions_of-held-items.ensures);
      grows = λ group what was. was;
    }

pub loop-held-preserved : goal.loop-held-preserved
loop-held-preserved g c =
    let bytes_of = g.F.Family.bytes_of in
    record {
      but = exception_next (bytes_of c.args.group) (due_seen bytes_of c.in-Some.held.now)
          (dues_seen bytes_of (values_of c.loop-held.held-iterator)) (dues_seen bytes_of (values_of c.next.new.self)) c.args.dues.now
          (machines_seen bytes_of c.loop-held.machines.keys) (machines_seen bytes_of c.add.new.machines.keys)
          (ap (λ held. dues_seen bytes_of (values_of held)) c.in-Some.ensures.steps)
          c.loop-held.invariant.but c.in_ok-add.ensures.has c.in_ok-add.ensures.grows;
      grows = λ group what was. c.in_ok-add.ensures.grows group what (c.loop-held.invariant.grows group what was);
    }

pub returns-clause-has : goal.returns-clause-has
returns-clause-has g c =
    let bytes_of = g.F.Family.bytes_of in
    exceptions_all (bytes_of c.args.group) (dues_seen bytes_of (values_of c.loop-held.held-iterator)) c.args.dues.now
    (machines_seen bytes_of c.loop-held.machines.keys)
    (ap (λ held. dues_seen bytes_of (values_of held)) c.in-None.ensures.steps.0) c.loop-held.invariant.but
