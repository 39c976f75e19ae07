use Rattle.std.proofs.Common.{◌≡◌, ℕ, subst, arith}
use Rattle.pim_audit.specs.Touched.{machines_seen}
use Rattle.pim_audit.specs.Watched.{HasExceptionsBelow}
use Rattle.pim_audit.proofs.Watching.{no_port_yet, next_port_has}
use Rattle.pim_audit.proofs.watched.add_exceptions.Goals as goal

pub loop-port-init : goal.loop-port-init
loop-port-init g c =
    let bytes_of = g.F.Family.bytes_of in
    record {
      has = no_port_yet c.args.ports.now (bytes_of c.args.group) (machines_seen bytes_of c.args.machines.now.keys);
      grows = λ group what was. was;
    }

pub loop-port-preserved : goal.loop-port-preserved
loop-port-preserved g c =
    let bytes_of = g.F.Family.bytes_of in
    record {
      has = next_port_has c.loop-port.port c.args.ports.now (bytes_of c.args.group) (machines_seen bytes_of c.loop-port.machines.keys)
          (machines_seen bytes_of c.add_exceptions_on.new.machines.keys) c.loop-port.invariant.has
          c.in_ok-add_exceptions_on.ensures.grows c.in_ok-add_exceptions_on.ensures.has;
      grows = λ group what was. c.in_ok-add_exceptions_on.ensures.grows group what (c.loop-port.invariant.grows group what was);
    }

pub returns-clause-has : goal.returns-clause-has
returns-clause-has g c =
    let bytes_of = g.F.Family.bytes_of in
    subst
    (λ (count : ℕ). HasExceptionsBelow count c.args.ports.now (bytes_of c.args.group) (machines_seen bytes_of c.loop-port.machines.keys))
    (let same : c.loop-port.port ≡ c.args.ports.now.ports = omega
    (arith, c.loop-port-test.false, c.loop-port.auto, c.port_count-port-end.ensures) in same)
    c.loop-port.invariant.has
