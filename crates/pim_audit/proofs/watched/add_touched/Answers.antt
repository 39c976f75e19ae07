use Rattle.pim_audit.specs.Touched.{machines_seen}
use Rattle.pim_audit.proofs.Watching.{watches_one}
use Rattle.pim_audit.proofs.watched.add_touched.Goals as goal

pub returns-in_ok-add_all_exceptions-in-Star-clause-has : goal.returns-in_ok-add_all_exceptions-in-Star-clause-has
returns-in_ok-add_all_exceptions-in-Star-clause-has g c = record {
  has = c.in_ok-add_all_exceptions-in-Star.ensures.grows _ _ c.in_ok-add.ensures.has;
  exceptions = λ star. c.in_ok-add_all_exceptions-in-Star.ensures.has;
}

pub returns-in_ok-add_all_exceptions-in-Star-clause-grows : goal.returns-in_ok-add_all_exceptions-in-Star-clause-grows
returns-in_ok-add_all_exceptions-in-Star-clause-grows g c = λ group what was.
    c.in_ok-add_all_exceptions-in-Star.ensures.grows group what (c.in_ok-add.ensures.grows group what was)

pub returns-in-Source-clause-has : goal.returns-in-Source-clause-has
returns-in-Source-clause-has g c =
    let bytes_of = g.F.Family.bytes_of in
    watches_one c.args.sides.now c.args.dues.now bytes_of (machines_seen bytes_of c.add.new.machines.keys) (bytes_of c.args.touched.group)
    c.args.touched.what c.in-Source.is c.in_ok-add.ensures.has
