use Rattle.std.proofs.Common.{ap}
use Rattle.pim_audit.specs.Sides.{SidesState}
use Rattle.pim_audit.specs.Touched.{machines_seen}
use Rattle.pim_audit.proofs.Watching.{gathered_all}
use Rattle.pim_audit.proofs.watched.add_all.Goals as goal

pub returns : goal.returns
returns g c =
    let bytes_of = g.F.Family.bytes_of in
    gathered_all c.args.sides.now c.args.dues.now c.sides.inside.asked.now c.sides.inside.wanted.now
    (ap (λ (s : SidesState). s.asked) c.sides.view_is) (ap (λ (s : SidesState). s.wanted) c.sides.view_is)
    (machines_seen bytes_of c.add_held.new.machines.keys) (machines_seen bytes_of c.add_held-2.new.machines.keys)
    (machines_seen bytes_of c.add_local.new.machines.keys) (machines_seen bytes_of c.add_due.new.machines.keys)
    c.in_ok-add_held-2.ensures.grows c.sides.inside.local.now (ap (λ (s : SidesState). s.local) c.sides.view_is)
    c.in_ok-add_local.ensures.grows c.in_ok-add_due.ensures.grows c.in_ok-add_held.ensures.has c.in_ok-add_held-2.ensures.has
    c.in_ok-add_local.ensures.has c.in_ok-add_due.ensures.has
