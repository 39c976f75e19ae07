use Rattle.std.proofs.Common.{ap}
use Rattle.pim_audit.specs.Sides.{SidesState}
use Rattle.pim_audit.specs.Touched.{machines_seen}
use Rattle.pim_audit.proofs.Watching.{gathered_exceptions}
use Rattle.pim_audit.proofs.watched.add_all_exceptions.Goals as goal

pub returns-clause-has : goal.returns-clause-has
returns-clause-has g c =
    let bytes_of = g.F.Family.bytes_of in
    gathered_exceptions c.args.sides.now c.args.dues.now c.sides.inside.asked.now c.sides.inside.wanted.now
    (ap (λ (s : SidesState). s.asked) c.sides.view_is) (ap (λ (s : SidesState). s.wanted) c.sides.view_is)
    (machines_seen bytes_of c.add_exceptions.new.machines.keys) (machines_seen bytes_of c.add_exceptions-2.new.machines.keys)
    (machines_seen bytes_of c.add_due_exceptions.new.machines.keys) (machines_seen bytes_of c.add_due_exceptions.new.machines.keys)
    c.in_ok-add_exceptions-2.ensures.grows (bytes_of c.args.group) c.in_ok-add_due_exceptions.ensures.grows
    c.in_ok-add_exceptions.ensures.has c.in_ok-add_exceptions-2.ensures.has c.in_ok-add_due_exceptions.ensures.has

pub returns-clause-grows : goal.returns-clause-grows
returns-clause-grows g c = λ group what was.
    c.in_ok-add_due_exceptions.ensures.grows group what
    (c.in_ok-add_exceptions-2.ensures.grows group what (c.in_ok-add_exceptions.ensures.grows group what was))
